pub mod Vectors
pub mod Lines
pub mod Circles
pub mod Bounds
