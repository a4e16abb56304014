pub mod WalkStops
pub mod WalkStopsTerms
pub mod WayGraphs
pub mod WayGraphsTerms
pub mod GraphWays
