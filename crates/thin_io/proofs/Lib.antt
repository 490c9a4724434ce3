pub mod Thinned
pub mod Uses
