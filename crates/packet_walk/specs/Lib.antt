pub mod Flight
pub mod FlightTerms
pub mod Rest
pub mod Schedule
pub mod ScheduleTerms
