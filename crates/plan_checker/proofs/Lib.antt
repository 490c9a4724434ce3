pub mod Steps
pub mod Calling
pub mod Lines
pub mod Fronts
pub mod Freshening
