-- A law for the steps of a list.
--     StepLaws     a step from its parts
pub mod StepLaws
