pub mod LeastWalks
pub mod Walks
pub mod NextHops
pub mod Routes
pub mod RoutesTerms
pub mod Incoming
pub mod Nearest
pub mod Settling
