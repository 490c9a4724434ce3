pub mod Ahead
pub mod Reaching
pub mod Lengths
pub mod Filling
pub mod Steps
