pub mod PublicLaws
pub mod DriverWalking
pub mod Writable
pub mod Scheduling
pub mod DriverEntering
pub mod DriverTurning
pub mod Mixing
pub mod OutAlone
