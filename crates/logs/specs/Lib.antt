pub mod Logs
pub mod Computed
pub mod LogAnswer
