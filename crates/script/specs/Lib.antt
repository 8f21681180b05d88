pub mod Data
pub mod Digits
pub mod Lines
pub mod Parts
pub mod Script
pub mod Words
