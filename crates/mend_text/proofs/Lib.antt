-- Laws of the definitions of specs/; TextLaws, FitLaws and GatherLaws serve the crates above too.
--     NameLaws     what makes a line a name, and what names behind a record ask for
--     InputLaws    the lines of an input, and what they ask for
--     LongLaws     a readable input is short
--     TextLaws     the lines of a report as text
--     FitLaws      a report's lines, and how many of them fit
--     StepLaws     the loop of `gather`, line by line
--     GatherLaws   calls of `gather`, one after another
--     Computed     inputs and texts, computed
--     Claims       what is promised of parts, of calls and of a long input
pub mod NameLaws
pub mod InputLaws
pub mod LongLaws
pub mod TextLaws
pub mod FitLaws
pub mod StepLaws
pub mod GatherLaws
pub mod Computed
pub mod Claims
