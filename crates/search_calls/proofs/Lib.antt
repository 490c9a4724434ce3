pub mod Looking
pub mod Parts
pub mod Showing
pub mod Standings
pub mod Finishing
