pub mod Asks
pub mod Ends
pub mod PiecesFed
pub mod Steps
pub mod Talking
