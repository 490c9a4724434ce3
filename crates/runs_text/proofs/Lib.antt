pub mod Examples
pub mod Reading
pub mod Spelling
pub mod Cases
pub mod Written
pub mod Uses
