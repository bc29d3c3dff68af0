-- Laws of the definitions of specs/; the second serves the crate above too.
--     Computed     a walk, refused starts and walks made by hand, computed
--     SizeLaws     the elements of an atom, and their bytes
--     AtomLaws     the bytes of an atom, as packing writes them
--     WalkLaws     the walk before each atom, and the stride to the next
--     ScanLaws     step n of a started walk
--     WriteLaws    the atoms written one after another
--     CallLaws     a started walk, by its call
--     Claims       the theorem about a whole walk
pub mod Computed
pub mod SizeLaws
pub mod AtomLaws
pub mod WalkLaws
pub mod ScanLaws
pub mod WriteLaws
pub mod CallLaws
pub mod Claims
