pub mod Examples
pub mod Law
pub mod Bits
pub mod Placement
pub mod Thinning
pub mod Claims
pub mod Calls
pub mod Uses
