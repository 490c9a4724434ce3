pub mod Answers
pub mod Places
pub mod Walk
pub mod LineRead
pub mod Sections
