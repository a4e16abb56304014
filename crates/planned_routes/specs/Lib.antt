pub mod PlannedRoutes
pub mod PlannedRoutesTerms
pub mod Owners
pub mod Grouping
pub mod Destinations
pub mod Entering
pub mod RouteKeys
