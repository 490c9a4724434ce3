pub mod Exported
pub mod Plans
