pub mod Columns
pub mod Blocks
