-- Laws of the definitions of specs/.
--     ReportLaws   a report printed a text full at a time
--     PartLaws     what an accepted mending of a part tells
--     CopyLaws     a file copied part by part
--     EndLaws      how a run ends
--     CodeLaws     the number that a run hands back
--     Claims       what it tells
pub mod ReportLaws
pub mod PartLaws
pub mod CopyLaws
pub mod EndLaws
pub mod CodeLaws
pub mod Claims
