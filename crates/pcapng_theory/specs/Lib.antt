pub mod NgBlocks
pub mod NgEndings
pub mod NgFiles
pub mod NgFrames
