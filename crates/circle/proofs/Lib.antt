pub mod Above
pub mod Mirrors
