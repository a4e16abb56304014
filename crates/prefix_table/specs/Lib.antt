pub mod Index
pub mod PrefixTable
