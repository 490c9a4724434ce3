pub mod Lines
pub mod Uses
