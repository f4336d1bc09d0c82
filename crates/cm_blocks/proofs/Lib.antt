pub mod Closure
mod CountLaws
pub mod Defaults
pub mod Fields
pub mod KeptFields
pub mod Needs
pub mod Onces
pub mod Parses
pub mod Places
pub mod PlainDefaults
pub mod Switches
pub mod Trials
pub mod Values
pub mod Walks
pub mod Wells
