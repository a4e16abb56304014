pub mod KeySets
pub mod SameRoutes
pub mod RoutesEntered
pub mod DestinationsReached
pub mod OwnersByPrefix
pub mod OwnersPlanned
pub mod LoopLists
pub mod Asked
