pub mod Rows
pub mod Patches
pub mod Turns
