pub mod Slots
pub mod Rules
pub mod Calls
pub mod Overlaps
pub mod Reads
