mod Cuts
mod Images
pub mod Parts
