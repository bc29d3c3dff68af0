-- Laws of the definitions of specs/, for the crates above.
--     Computed        the paper's frame, owners and the orders, computed
--     Valid           what an accepted layout tells
--     RuleLaws        checks 1 to 4 as the code goes through them
--     Atoms           a byte's atom by division, and the paper's formula
--     Views           a byte's owner by cases, each with the paper's formula
--     BoxLaws         boxes, and the raw order over a box
--     ContentLaws     each byte after packing and after writing a box
--     JoinLaws        a box written part by part
--     Extents         places inside the extent, aligned, within 64 bits
--     WhoseLaws       a byte's owner as the call finds it
--     CallLaws        the orders of checks: a call on the whole cube, and what an accepted call tells
--     Formulas        the paper's formula and its converse; packing by it
--     RoundTrip       what is packed is read back
--     SameLaws        the elements of a box from their bytes alone
--     PackLaws        what an accepted packing, or writing of a box, comes to
--     Claims          the claims about packed cubes, of the calls
pub mod Computed
pub mod Valid
pub mod RuleLaws
pub mod Atoms
pub mod Views
pub mod BoxLaws
pub mod ContentLaws
pub mod JoinLaws
pub mod Extents
pub mod WhoseLaws
pub mod CallLaws
pub mod Formulas
pub mod RoundTrip
pub mod SameLaws
pub mod PackLaws
pub mod Claims
