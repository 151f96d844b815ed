pub mod Accurate
pub mod Accepted
pub mod Strips
