-- Laws of whole numbers, for the crates above.
--     Computed        saturation, computed
--     SaturateLaws    saturation
pub mod Computed
pub mod SaturateLaws
