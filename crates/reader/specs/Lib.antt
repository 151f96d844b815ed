pub mod Written
pub mod Text
pub mod Reading
pub mod View
