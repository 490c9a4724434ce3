pub mod Chain
pub mod Fields
pub mod Taking
pub mod Sound
pub mod Complete
pub mod Answers
