pub mod BufferView
pub mod BufferLending
