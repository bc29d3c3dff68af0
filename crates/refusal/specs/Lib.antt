pub mod Codes
pub mod Checks
pub mod Sizes
