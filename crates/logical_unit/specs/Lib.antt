pub mod Hosts
pub mod ModePage
pub mod State
