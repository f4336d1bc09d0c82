pub mod Ascii
pub mod LineBytes
pub mod LinesLaws
pub mod SetBits
