pub mod Panel
pub mod Reports
pub mod Changes
pub mod ReportLine
