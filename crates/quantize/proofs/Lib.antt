-- Laws of the definitions of specs/.
--     Computed        the paper's numbers and the order, computed
--     ScaleLaws       the scaled difference as the code computes it, within 64 bits
--     NearestLaws     rounding to the nearest by a shift that rounds down
--     AnswerLaws      the limits, the value's range, and the checks in their order
--     Claims          the claims about conversion
pub mod Computed
pub mod ScaleLaws
pub mod NearestLaws
pub mod AnswerLaws
pub mod Claims
