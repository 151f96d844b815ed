pub mod Walks
pub mod Four
