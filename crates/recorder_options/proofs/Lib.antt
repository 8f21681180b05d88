pub mod Help
pub mod Lists
