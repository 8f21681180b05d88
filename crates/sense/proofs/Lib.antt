pub mod Ladders
