pub mod Entries
pub mod Passes
