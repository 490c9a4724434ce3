pub mod Exported
pub mod Uses
