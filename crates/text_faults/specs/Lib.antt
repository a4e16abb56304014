pub mod Keys
pub mod TextFaults
pub mod TextReading
