pub mod Examples
pub mod Adding
pub mod Spreading
pub mod Counts
pub mod Uses
