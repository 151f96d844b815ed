pub mod Spot
pub mod Fixup
pub mod Placed
pub mod Reply
pub mod Represented
pub mod Worked
