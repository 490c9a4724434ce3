pub mod Telling
pub mod Finding
pub mod Putting
pub mod Ranges
pub mod Answering
