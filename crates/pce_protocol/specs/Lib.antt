pub mod Fields
pub mod Ids
pub mod Kinds
pub mod Replies
pub mod Requests
