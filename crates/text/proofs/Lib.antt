pub mod Decimal
pub mod Reading
pub mod Lines
pub mod Appending
pub mod Examples
pub mod Numbers
pub mod Chain
