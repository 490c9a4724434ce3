pub mod Entries
pub mod Clearing
pub mod Beginning
pub mod Gaining
pub mod Visits
pub mod Retracing
pub mod Loops
pub mod Rounds
