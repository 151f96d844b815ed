pub mod Columns
pub mod Far
pub mod Parts
pub mod Rows
