pub mod Axis
pub mod Copies
