pub mod Answers
pub mod Testing
pub mod Bytes
pub mod Ranges
