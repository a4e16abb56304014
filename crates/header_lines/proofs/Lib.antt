pub mod ChainLines
pub mod FaultLines
