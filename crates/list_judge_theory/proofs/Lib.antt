pub mod LastPlaces
pub mod CoursePaths
pub mod EarlyPaths
pub mod CourseRealizing
pub mod OwnEarly
pub mod NeedLaws
pub mod OneNeeds
pub mod PublicLaws
