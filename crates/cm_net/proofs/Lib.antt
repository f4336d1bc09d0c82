pub mod Groups
pub mod Ipv4Texts
pub mod MacTexts
pub mod PartedTexts
pub mod PrefixTexts
pub mod Sizes
pub mod TextValues
