pub mod Way
pub mod WayTerms
pub mod Treatment
pub mod Relation
pub mod Walk
pub mod WalkTerms
pub mod WalkLaws
pub mod WalkLawsTerms
