pub mod Bits
pub mod Tables
pub mod Card
pub mod PageLaw
pub mod Modeled
pub mod CardKeeps
pub mod Search
pub mod PageWrites
