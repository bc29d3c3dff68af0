pub mod Formats
pub mod Settings
pub mod Places
