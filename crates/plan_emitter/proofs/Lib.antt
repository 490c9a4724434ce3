pub mod Next
pub mod Copying
pub mod Emitting
pub mod Putting
