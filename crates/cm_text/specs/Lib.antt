pub mod BeginLaws
pub mod ByteSets
pub mod Bytes
pub mod Case
pub mod Lines
pub mod Padding
pub mod ScreenBytes
pub mod Text
