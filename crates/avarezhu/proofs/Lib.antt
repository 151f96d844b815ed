pub mod Slices
pub mod Exact
pub mod Grammar
pub mod Strips
