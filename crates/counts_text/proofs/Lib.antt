pub mod Examples
pub mod Chart
pub mod Uses
