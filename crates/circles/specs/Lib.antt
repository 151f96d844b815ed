pub mod Position
pub mod Circle
pub mod Worked
