-- Laws behind the functions of this crate, and the claims.
--     WordLaws     a flag as a word
--     OverLaws     entries written over a list, one after another
--     TableLaws    a table as words: read back, written over itself
--     SlotLaws     a placing and a release
--     SheetLaws    a sheet's state as words
--     FeedLaws     a sheet's calls over words
--     ReadyLaws    the ready-made words
--     Claims       the statements
pub mod WordLaws
pub mod OverLaws
pub mod TableLaws
pub mod SlotLaws
pub mod SheetLaws
pub mod FeedLaws
pub mod ReadyLaws
pub mod Claims
