pub mod Exact
pub mod Writing
pub mod Replies
