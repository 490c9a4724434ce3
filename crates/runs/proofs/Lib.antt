pub mod Examples
pub mod Says
pub mod Track
pub mod Bound
pub mod Runs
pub mod Uses
pub mod Inhabited
