pub mod Number
pub mod Cut
pub mod Color
pub mod Worked
