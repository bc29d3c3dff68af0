pub mod Geometry
pub mod Places
pub mod Rules
pub mod Contents
pub mod Calls
pub mod StepsPixels
