-- Laws of the definitions of specs/, for the crates above.
--     Computed    checks and numbers, computed
--     CheckLaws   a list of checks: passed, refused, one check more; what a call leaves
--     SizeLaws    a size in its range
pub mod Computed
pub mod CheckLaws
pub mod SizeLaws
