pub mod Answered
pub mod Closing
pub mod Items
pub mod Cut
pub mod Carried
pub mod Accepted
pub mod Bytes
