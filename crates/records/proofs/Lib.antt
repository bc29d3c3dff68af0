-- Laws of the definitions of specs/.
--     LineLaws     a line's record, from its fields, and from the line that was collected
--     Computed   lines and their records, computed
pub mod LineLaws
pub mod Computed
