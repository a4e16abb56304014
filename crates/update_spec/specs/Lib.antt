pub mod Changes
pub mod Equal
pub mod Joined
pub mod Lookups
pub mod Planning
pub mod Alike
