pub mod Calls
pub mod Claims
pub mod Cut
pub mod Line
pub mod Ends
pub mod Fronts
pub mod Pieces
pub mod Uses
