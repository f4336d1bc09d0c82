pub mod Cut
pub mod Ends
pub mod Fails
pub mod Image
pub mod Parts
pub mod Steps
pub mod Texts
pub mod Trace
