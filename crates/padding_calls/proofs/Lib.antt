-- Laws of the steps of specs/Steps.antt.
--     StretchLaws     where padding lies, by division
--     DoneLaws        a part whose first bytes are mended, one byte further
--     GoesLaws        the three lists before and after steps
pub mod StretchLaws
pub mod DoneLaws
pub mod GoesLaws
