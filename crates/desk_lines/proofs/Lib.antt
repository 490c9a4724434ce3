pub mod Examples
pub mod Panel
pub mod Reports
pub mod Changes
