pub mod Records
pub mod Recording
pub mod Recorded
