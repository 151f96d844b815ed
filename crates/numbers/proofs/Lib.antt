pub mod Integers
pub mod Floors
pub mod Rounding
pub mod Units
pub mod Nearest
pub mod Signed
