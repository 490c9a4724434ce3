pub mod Exported
pub mod Plans
pub mod Uses
