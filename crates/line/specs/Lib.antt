pub mod Box
pub mod Vector
pub mod Location
pub mod Circle
pub mod Line
pub mod Represented
pub mod Bounds
pub mod Worked
