pub mod Framed
pub mod Made
