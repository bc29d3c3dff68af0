-- Laws of the definitions of specs/.
--     ColumnLaws   columns, entry by entry, and how they grow
--     UnitLaws     the bytes of elements, units of two, tiles, bands
--     ReadLaws     the elements of bytes
--     RowLaws      rows below rows
--     StripLaws    strips of columns
--     TowardLaws   columns as a step toward a goal list
--     ClearLaws    bytes cleared
--     BlockLaws    blocks that fit, as columns
--     Computed     two blocks, computed
pub mod ColumnLaws
pub mod UnitLaws
pub mod ReadLaws
pub mod RowLaws
pub mod StripLaws
pub mod TowardLaws
pub mod ClearLaws
pub mod BlockLaws
pub mod Computed
