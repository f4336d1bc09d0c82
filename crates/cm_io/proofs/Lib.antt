pub mod Additions
mod Appends
mod Repeats
pub mod Texts
pub mod Writers
