pub mod End
pub mod Grid
pub mod Holds
pub mod KeptRows
pub mod ScreenText
