pub mod Causes
pub mod Courses
pub mod Ends
mod HaltedRuns
pub mod Outcomes
pub mod QuietEnds
mod Stops
pub mod Words
