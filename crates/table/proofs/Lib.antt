pub mod Packing
pub mod Stores
pub mod Runs
pub mod Walked
pub mod Stretches
