pub mod Joins
pub mod Ties
