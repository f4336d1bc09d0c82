pub mod Panel
pub mod Tally
