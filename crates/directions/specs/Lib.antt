pub mod Direction
pub mod Worked
