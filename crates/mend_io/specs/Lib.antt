pub mod Ending
pub mod Steps
