pub mod Judging
pub mod Comparing
