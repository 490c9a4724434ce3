pub mod Examples
pub mod Computed
pub mod Swapping
pub mod Logs
pub mod Uses
