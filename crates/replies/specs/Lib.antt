pub mod Replies
pub mod Refused
pub mod Room
pub mod Handed
pub mod Worked
