pub mod Command
pub mod Graph
pub mod Program
