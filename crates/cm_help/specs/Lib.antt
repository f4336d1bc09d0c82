pub mod Help
pub mod Names
pub mod Numbers
pub mod Phrase
