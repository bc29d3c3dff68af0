pub mod Bytes
pub mod Lists
pub mod Values
pub mod Steps
