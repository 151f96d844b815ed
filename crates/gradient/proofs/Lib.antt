pub mod Lists
pub mod Laws
