pub mod Branches
mod Edits
mod Fronts
pub mod Lines
mod Logs
mod Rest
mod Roles
mod ScreenLines
mod Stacks
mod Starts
pub mod Ways
