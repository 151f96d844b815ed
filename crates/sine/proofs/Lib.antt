mod Table
pub mod Rules
pub mod Differences
