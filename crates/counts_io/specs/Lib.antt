pub mod Shown
pub mod Claims
