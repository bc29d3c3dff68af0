-- Laws of the definitions of specs/; the first three, and the claim `part-by-part`, serve the crates above too.
--     MendLaws       mended bytes and their report
--     CheckLaws      the checks of a call
--     CallLaws       what a call answers and leaves, refused or accepted
--     FileLaws       a file part by part, mended again, restored
--     PlaceLaws      mended bytes and reports by the paper's formula
--     PackedLaws     packed buffers, and what is read
--     ClaimLaws      the claims, from these
--     Claims         the claims about mending, of the calls
--     Computed       small frames, reports and the order of checks, computed
pub mod MendLaws
pub mod CheckLaws
pub mod CallLaws
pub mod FileLaws
pub mod PlaceLaws
pub mod PackedLaws
pub mod ClaimLaws
pub mod Claims
pub mod Computed
