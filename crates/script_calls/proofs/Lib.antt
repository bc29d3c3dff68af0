-- Laws of how the code goes through a record.
--     AnswerLaws   a record's answer, value and desk in terms of what the code calls
pub mod AnswerLaws
