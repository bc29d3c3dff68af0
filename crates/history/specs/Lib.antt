pub mod Program
pub mod Writes
pub mod Model
pub mod Example
pub mod Paintings
pub mod Floats
