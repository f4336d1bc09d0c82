pub mod ExecLaws
pub mod ExecRules
pub mod Graph
pub mod RetentionCount
pub mod Tables
pub mod Words
