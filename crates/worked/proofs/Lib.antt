-- Computed from the definitions.
--     Worked       the starred cases
--     Readings     the readings shut out
pub mod Worked
pub mod Readings
