-- Laws of how the code walks, writes and reads the runs.
--     RunLaws         runs, and the run behind a run
--     CellLaws        what the columns of a run hold
--     BlockLaws       ..as the code computes them
--     WalkLaws        the walk over all runs, toward a goal list
--     WriteLaws, ReadLaws     what writing and reading all runs leave
pub mod RunLaws
pub mod CellLaws
pub mod BlockLaws
pub mod WalkLaws
pub mod WriteLaws
pub mod ReadLaws
