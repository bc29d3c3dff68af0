-- The theorem about the whole input, and the laws behind it.
--     CallLaws     one call, and the calls for a part
--     CutLaws      parts fed one after another give the rows of the lines
--     RowLaws      as many rows as lines, numbered; what a refused record leaves
--     OutputLaws   the text of a row, and of all rows
--     SheetLaws    parts, rows and texts of a whole sheet
--     Claims       the statements
--     Computed     the paper's session, computed
pub mod CallLaws
pub mod CutLaws
pub mod RowLaws
pub mod OutputLaws
pub mod SheetLaws
pub mod Claims
pub mod Computed
