pub mod Desk
pub mod Following
pub mod Change
pub mod OpenAnswer
pub mod SettingAnswer
pub mod ChangeAnswer
pub mod ReportAnswer
