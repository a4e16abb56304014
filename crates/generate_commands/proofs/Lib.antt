pub mod WalksCounted
pub mod Generating
pub mod GenerateOneOutput
pub mod PublicLaws
