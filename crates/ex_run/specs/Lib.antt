pub mod Cause
pub mod Closing
pub mod Course
pub mod Over
pub mod Runs
pub mod Scene
