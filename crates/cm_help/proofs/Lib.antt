pub mod Columns
pub mod Entries
pub mod Joins
pub mod NameLaws
