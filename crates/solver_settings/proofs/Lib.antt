pub mod Search
pub mod Alone
pub mod Stepping
pub mod Trying
pub mod Asking
pub mod Answers
pub mod Examples
pub mod Uses
