pub mod Places
pub mod Writes
pub mod Parts
pub mod Back
pub mod Exact
pub mod Replies
