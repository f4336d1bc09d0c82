pub mod Date
pub mod DayText
