pub mod Pieces
pub mod Lines
pub mod Written
pub mod Claims
pub mod Uses
