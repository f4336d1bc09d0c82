pub mod Ascents
pub mod Extremes
pub mod Halves
pub mod KeptFiles
pub mod Places
pub mod Retention
