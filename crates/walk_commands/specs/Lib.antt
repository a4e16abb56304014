pub mod Headend
pub mod WalkCommand
pub mod WalkCommandTerms
pub mod WalkLists
