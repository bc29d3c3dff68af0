-- Laws of how the code takes the samples.
--     LineLaws, RowLaws, ServeLaws, PlanLaws   numbers on a line, rows, the rows of a table, the rows of a run
--     PairLaws                                 the counters from the pairs of sides
--     PointLaws                                the points of a table written
--     LoopLaws                                 the loop over the samples
pub mod LineLaws
pub mod RowLaws
pub mod ServeLaws
pub mod PlanLaws
pub mod PointLaws
pub mod PairLaws
pub mod LoopLaws
