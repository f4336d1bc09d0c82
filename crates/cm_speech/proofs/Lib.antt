pub mod Lawful
pub mod Lists
pub mod Macs
pub mod Whole
