pub mod Sends
pub mod Takes
pub mod Known
pub mod PublicLaws
