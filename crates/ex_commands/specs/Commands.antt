-- The commands, each with what a line of it commands, what it does and what it shows.
pub mod Append
pub mod Build
pub mod Connect
pub mod Copy
pub mod Define
pub mod Delete
pub mod Directory
pub mod Expunge
pub mod Information
pub mod Logout
pub mod Print
pub mod Rename
pub mod Set
pub mod Take
pub mod TypeOut
pub mod Undelete
