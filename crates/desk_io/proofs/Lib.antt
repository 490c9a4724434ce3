pub mod Saying
pub mod Changing
pub mod Followed
pub mod Calls
pub mod Uses
