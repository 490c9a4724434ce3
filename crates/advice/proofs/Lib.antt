pub mod Examples
pub mod Accepting
pub mod Naming
pub mod NeverWorse
pub mod Claims
pub mod Advising
pub mod Yards
pub mod Uses
