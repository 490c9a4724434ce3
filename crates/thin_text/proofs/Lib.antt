pub mod Lean
pub mod Claims
pub mod Cut
pub mod Uses
