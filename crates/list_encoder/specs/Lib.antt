pub mod Cells
pub mod CellTable
pub mod Waiting
pub mod Offers
pub mod Grouped
pub mod Settling
pub mod Picks
pub mod Listing
