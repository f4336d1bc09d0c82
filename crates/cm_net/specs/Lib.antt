pub mod Mac
pub mod MacShape
pub mod Parts
pub mod Prefix
pub mod Reads
pub mod Values
pub mod Written
