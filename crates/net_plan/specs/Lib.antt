pub mod CableLinks
pub mod BaseNetwork
pub mod LinkMetrics
pub mod PlanOwners
pub mod ExitRoutes
pub mod PlannedNetwork
pub mod PlanRanges
