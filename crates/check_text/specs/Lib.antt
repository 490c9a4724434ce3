pub mod Verdict
pub mod Pieces
pub mod Claims
