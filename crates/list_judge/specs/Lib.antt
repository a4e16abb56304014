pub mod Judgements
pub mod CourseTurns
pub mod Causes
