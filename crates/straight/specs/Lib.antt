pub mod Begun
pub mod Shift
