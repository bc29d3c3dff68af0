pub mod Cases
pub mod Cubes
pub mod Weights
pub mod Conversions
pub mod Lookups
pub mod Cameras
pub mod Readings
