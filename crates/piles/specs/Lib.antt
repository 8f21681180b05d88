pub mod Bottoms
pub mod Orders
