pub mod DayTexts
pub mod Days
pub mod MonthNames
pub mod OneText
pub mod Texts
pub mod Values
