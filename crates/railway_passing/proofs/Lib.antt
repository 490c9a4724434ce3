pub mod Uses
pub mod Answers
