pub mod ByValue
pub mod Ranges
