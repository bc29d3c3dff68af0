-- Laws of the definitions of specs/, for the crates above; the last four serve this crate alone.
--     Computed    bytes and values, computed
--     ListLaws    a list made anew by position: its length and its entries
--     TabulateLaws   a list given by position: its length and its entries
--     ByteLaws    an element's size, its bytes, and the element that bytes are; the round trip
--     ElementLaws which elements a precision takes, and the check of one
--     ValueLaws   what the checks of a list of elements answer
--     WordLaws    the unsigned number that bytes are
--     CastLaws    an element as the bits that std gives of it, and back
--     NanLaws     which numbers are NaN
--     Claims      number and index of a refused list, and the numbers that are NaN
--     StepLaws    the code's test of an element, and a pass over the first elements
pub mod Computed
pub mod ListLaws
pub mod TabulateLaws
pub mod ByteLaws
pub mod ElementLaws
pub mod ValueLaws
pub mod WordLaws
pub mod CastLaws
pub mod NanLaws
pub mod StepLaws
pub mod Claims
