pub mod Console
pub mod Graph
pub mod Rules
