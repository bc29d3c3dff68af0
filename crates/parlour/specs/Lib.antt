pub mod Components
pub mod Counts
pub mod Rules
pub mod Calls
