pub mod Items
pub mod ChainStepping
pub mod Ip6Reading
pub mod Ip4Reading
pub mod Editing
