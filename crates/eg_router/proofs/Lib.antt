pub mod Completions
pub mod Entries
pub mod Faultless
pub mod Fields
pub mod Listings
