pub mod RouteNumbers
pub mod Meant
pub mod PlanLemmas
pub mod ChangeLemmas
pub mod PrefixLemmas
pub mod QuietLemmas
