pub mod Said
pub mod Uses
