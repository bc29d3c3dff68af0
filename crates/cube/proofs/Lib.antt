-- Laws behind the functions of this crate.
--     RunLaws      a run of a box: one channel of one row; where later channels begin
--     RowLaws      the channels of one atom in one row, as columns
--     GatherLaws   the elements of a box as they lie in a list
--     GoalLaws     what the buffer is to become, byte by byte
--     WriteLaws    one row written comes toward it
--     StripLaws    a box cleared strip by strip
--     ReadLaws     one row read comes toward the box's elements
--     FinalLaws    what the loops come to in the terms of the promises
pub mod RunLaws
pub mod RowLaws
pub mod GatherLaws
pub mod GoalLaws
pub mod WriteLaws
pub mod StripLaws
pub mod ReadLaws
pub mod FinalLaws
