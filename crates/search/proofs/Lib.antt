pub mod Opening
pub mod Inhabited
pub mod Searching
pub mod Uses
