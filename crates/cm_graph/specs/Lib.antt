pub mod Clashes
pub mod Exits
pub mod Fields
pub mod Graphs
pub mod Helps
pub mod Tables
pub mod Texts
