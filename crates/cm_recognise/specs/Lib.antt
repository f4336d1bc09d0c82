pub mod Candidates
pub mod Capitals
pub mod FileOutcome
pub mod Insertion
pub mod Outcome
pub mod Remaining
pub mod Sound
