pub mod Law
pub mod Thinning
pub mod Claims
pub mod Calls
pub mod ThinAnswer
