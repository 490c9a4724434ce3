pub mod Parts
pub mod Claims
pub mod Answers
pub mod Uses
