pub mod Solved
pub mod Sizes
pub mod Whole
pub mod Written
pub mod Cases
pub mod Uses
