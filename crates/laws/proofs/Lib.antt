pub mod Bools
pub mod Below
pub mod Lists
pub mod Bits
pub mod Which
pub mod Snoc
pub mod Filling
pub mod Bitwise
