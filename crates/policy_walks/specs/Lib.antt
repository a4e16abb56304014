pub mod HeaderWalks
