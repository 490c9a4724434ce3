pub mod Coding
pub mod Placing
pub mod Moving
pub mod Round
