pub mod Session
pub mod Followed
