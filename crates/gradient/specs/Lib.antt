pub mod Lists
pub mod Blank
pub mod Bytes
pub mod Range
pub mod Check
pub mod Worked
