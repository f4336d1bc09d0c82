mod Parts
pub mod SaveLaws
pub mod Starts
pub mod Trials
mod WordLaws
