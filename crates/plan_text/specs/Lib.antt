pub mod Written
pub mod Listable
