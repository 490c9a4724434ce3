pub mod Answers
pub mod Reached
pub mod Onward
