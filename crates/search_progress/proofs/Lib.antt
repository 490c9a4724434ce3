pub mod Telling
pub mod Spelling
pub mod Uses
