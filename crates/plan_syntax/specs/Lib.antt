pub mod PlanWords
pub mod PlanFaults
pub mod PlanTree
pub mod PlanText
