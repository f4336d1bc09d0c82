pub mod Disk
pub mod Form
pub mod Messages
pub mod Quiet
pub mod Saving
pub mod Start
pub mod Trying
pub mod WordViews
