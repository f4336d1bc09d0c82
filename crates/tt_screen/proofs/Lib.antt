pub mod Feeds
pub mod HeldTexts
mod ReadBytes
mod WrittenRows
