pub mod Groups
pub mod Lines
pub mod Places
pub mod Readings
