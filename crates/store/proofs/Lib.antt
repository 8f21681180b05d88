pub mod Answers
pub mod Bytes
pub mod Places
pub mod InTurn
pub mod Sums
pub mod Lines
pub mod Moving
pub mod Guards
