pub mod Address
pub mod Rules
