pub mod Game
pub mod Placement
pub mod Setting
pub mod Moves
pub mod Claim
pub mod ByTurns
pub mod Local
