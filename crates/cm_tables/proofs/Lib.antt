pub mod AsciiLemmas
pub mod CommonLemmas
pub mod FoundLemmas
pub mod ListedEntries
pub mod PlaceLaws
mod SearchLemmas
pub mod ShareLemmas
pub mod StartLaws
pub mod WithinLemmas
