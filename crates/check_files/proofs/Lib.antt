pub mod Hearing
pub mod Uses
