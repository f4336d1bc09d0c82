pub mod Faultless
mod Keys
