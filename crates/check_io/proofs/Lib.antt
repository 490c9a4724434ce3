pub mod Answered
pub mod Uses
