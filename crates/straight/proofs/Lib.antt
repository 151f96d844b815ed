pub mod Columns
pub mod Shifts
