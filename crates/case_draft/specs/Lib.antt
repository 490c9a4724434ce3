pub mod Drafting
pub mod KnownEnd
pub mod Lines
