pub mod HeaderWalkHeads
pub mod HeaderWalkStages
pub mod HeaderWalkPlaces
pub mod HeaderWalkRuns
