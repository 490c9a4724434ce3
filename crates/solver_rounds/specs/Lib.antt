pub mod Rounds
pub mod Visits
