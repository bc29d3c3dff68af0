-- Laws of how the code goes through slots and boxes.
--     StepLaws      slots and boxes as the code reads them, and the calls in terms of what they call
--     MeetLaws      the code's overlap test
pub mod StepLaws
pub mod MeetLaws
