pub mod HeaderFronts
pub mod HopLimits
