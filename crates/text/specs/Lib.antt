pub mod Text
pub mod Reading
pub mod Appending
pub mod Answers
pub mod Number
pub mod Byte
