pub mod Modeled
