pub mod Found
pub mod Totals
pub mod Views
pub mod LawRows
