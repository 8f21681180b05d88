pub mod Choice
pub mod Faults
pub mod Given
pub mod Names
pub mod Order
