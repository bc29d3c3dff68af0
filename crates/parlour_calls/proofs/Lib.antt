-- The laws behind this crate's functions.
--     ComponentLaws   a component, as the code reads it from its bytes
--     CountLaws       how many components are held, as the code counts them
--     TileLaws        the tile of a strip
--     StripLaws       strips and rows of a picture
--     TargetLaws      the box that is painted, as the code finds it
--     PaintLaws       painting as the code does it
--     AnswerLaws      calls that cannot be refused here
pub mod ComponentLaws
pub mod CountLaws
pub mod TileLaws
pub mod StripLaws
pub mod TargetLaws
pub mod PaintLaws
pub mod AnswerLaws
