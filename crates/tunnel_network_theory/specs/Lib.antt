pub mod NetworkWalks
pub mod NetworkTransits
pub mod HeaderOrigins
pub mod HopLimitsAlike
pub mod IntentPaths
pub mod FirstExecutions
