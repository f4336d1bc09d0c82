pub mod Among
pub mod Pages
pub mod Parts
pub mod RunEnd
pub mod Spool
pub mod Texts
pub mod Walk
