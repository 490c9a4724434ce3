pub mod Answers
pub mod Desks
pub mod Counting
pub mod Calling
pub mod Shapes
pub mod Changing
