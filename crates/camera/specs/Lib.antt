pub mod Curve
pub mod Ready
