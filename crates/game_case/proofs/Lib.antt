pub mod Opening
pub mod Cases
pub mod Uses
