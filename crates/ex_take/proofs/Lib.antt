mod Acts
mod Changes
mod CommandAnswers
mod Files
pub mod KeptLines
mod Keys
mod LineLaws
mod LogoutKeys
mod LogoutLines
mod Outcomes
mod PendingCommands
mod Quiet
pub mod QuietKeys
mod QuietLines
mod Refusals
mod Replies
pub mod Rests
pub mod Sequels
mod States
mod TypedKeys
