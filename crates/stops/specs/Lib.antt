pub mod Blank
pub mod Bytes
pub mod Check
