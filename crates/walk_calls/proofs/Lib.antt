-- Laws behind the functions of this crate.
--     AtomLaws     the bytes of an atom, element by element
pub mod AtomLaws
