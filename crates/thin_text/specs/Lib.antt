pub mod Lean
pub mod Claims
