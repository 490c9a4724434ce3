pub mod Running
pub mod Uses
