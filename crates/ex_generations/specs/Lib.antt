pub mod Generations
pub mod Retention
