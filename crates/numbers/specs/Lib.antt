pub mod Biased
pub mod Floor
pub mod Units
pub mod Fraction
pub mod Worked
