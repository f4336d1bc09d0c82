pub mod Among
pub mod AmongLaws
pub mod Field
pub mod FieldBytes
pub mod Meanings
pub mod Ties
