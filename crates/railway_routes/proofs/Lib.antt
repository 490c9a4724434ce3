pub mod Examples
pub mod Ways
pub mod Suits
pub mod Routes
pub mod Putting
pub mod Walking
