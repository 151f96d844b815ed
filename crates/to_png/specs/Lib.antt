pub mod File
pub mod Strips
