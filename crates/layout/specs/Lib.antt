pub mod Geometry
pub mod Places
pub mod Boxes
pub mod Rules
pub mod Owners
pub mod Whose
pub mod Contents
pub mod Calls
