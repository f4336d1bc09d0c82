pub mod Command
pub mod Graph
pub mod Lamps
pub mod Program
