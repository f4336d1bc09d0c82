pub mod Acts
pub mod Causes
mod CommandLines
mod Counts
pub mod Course
pub mod Cuts
pub mod Displays
pub mod Echoes
pub mod Effects
mod FileLines
pub mod Fileless
mod FirstPrompt
pub mod Joins
mod Keys
mod Keystrokes
mod LawLemmas
pub mod LineEnds
pub mod LinePrograms
pub mod LineTurns
mod Lines
mod Memory
pub mod MemoryEvents
mod Modes
mod MomentLaws
pub mod Outcomes
pub mod Prefixes
pub mod Progress
mod Rows
pub mod Screens
pub mod ShownBytes
