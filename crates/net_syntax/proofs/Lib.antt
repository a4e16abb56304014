mod KeyLemmas
pub mod Prefixes4
