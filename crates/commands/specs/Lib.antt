pub mod Order
pub mod Codes
pub mod Carried
pub mod Requirements
