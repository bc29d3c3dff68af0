-- Laws of the definitions of specs/, for the crates above.
--     Computed      regions of the paper's frame and the orders, computed
--     RuleLaws      the orders of checks: what an accepted placing, edit or read tells
--     OverlapLaws   a placing overlaps exactly if some position is in a rectangle already placed
--     CallLaws      what an accepted read, edit or placing tells
--     ReadLaws      what a read depends on
--     Claims        overlapping, in the paper's words
pub mod Computed
pub mod RuleLaws
pub mod OverlapLaws
pub mod CallLaws
pub mod ReadLaws
pub mod Claims
