pub mod Premises
pub mod Runs
pub mod Commands
pub mod Shifts
pub mod Cards
pub mod AfterCommands
pub mod StoreCalls
