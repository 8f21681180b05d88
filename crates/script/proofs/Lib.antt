pub mod FirstPlaces
pub mod Numbers
pub mod Scripts
