pub mod Walk
pub mod Channels
