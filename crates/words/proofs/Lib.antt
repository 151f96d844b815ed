pub mod Each
pub mod UpTo
pub mod Equal
pub mod Back
