pub mod BindingTableWays
pub mod OriginRows
pub mod OriginTables
pub mod PublicLaws
