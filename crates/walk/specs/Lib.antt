pub mod Walks
pub mod Scans
