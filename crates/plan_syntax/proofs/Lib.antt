pub mod PlanListReading
pub mod PlanCounts
