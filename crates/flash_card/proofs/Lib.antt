pub mod Entering
pub mod Free
pub mod GivenUp
pub mod Grouped
pub mod Putting
pub mod Words
