pub mod FileTexts
pub mod Held
pub mod Lines
pub mod OtherNetworks
pub mod PartsLeft
