pub mod Multitude
