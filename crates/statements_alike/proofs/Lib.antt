pub mod Playing
pub mod Solving
pub mod Alike
pub mod Uses
