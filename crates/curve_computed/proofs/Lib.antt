-- Laws of Newton's steps.
--     Computed       Newton's steps, computed
--     NewtonLaws     one step, and all steps, over any number
--     Claims         the claims about the steps, each proof a citation
pub mod Computed
pub mod NewtonLaws
pub mod Claims
