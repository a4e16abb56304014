pub mod Arriving
pub mod ArrivingTerms
pub mod Moving
pub mod MovingTerms
pub mod Events
pub mod EventsTerms
pub mod Going
pub mod Over
