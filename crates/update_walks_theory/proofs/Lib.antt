pub mod BetweenCases
pub mod BetweenSteps
pub mod BetweenWalks
pub mod Same
pub mod BetweenPolicies
pub mod BetweenBetween
pub mod PublicLaws
