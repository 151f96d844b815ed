pub mod Replies
pub mod Drawn
pub mod Inner
pub mod Strips
