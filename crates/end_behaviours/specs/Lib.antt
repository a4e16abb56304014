pub mod HeaderFinding
pub mod SrhStepping
pub mod Onward
pub mod LastHeaders
