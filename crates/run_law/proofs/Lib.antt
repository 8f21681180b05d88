pub mod Reservations
pub mod Histories
pub mod Powers
