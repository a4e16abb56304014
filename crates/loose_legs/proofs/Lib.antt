pub mod LooseTablePositions
pub mod StepLaws
pub mod OnwardRows
pub mod PublicLaws
