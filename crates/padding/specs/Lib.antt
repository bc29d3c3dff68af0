pub mod Mending
pub mod Calls
pub mod Files
