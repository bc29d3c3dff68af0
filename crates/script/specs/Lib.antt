pub mod Rows
pub mod Sheets
pub mod Feed
pub mod Output
