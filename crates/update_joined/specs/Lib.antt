pub mod RouteKeys
pub mod JoinedEntries
pub mod PrefixKeys
