pub mod JudgeLaws
pub mod Judges
