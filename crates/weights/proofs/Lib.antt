-- Laws of the definitions of specs/, for the crates above.
--     Computed        the paper's weights and the orders of checks, computed
--     Valid           what accepted sizes tell
--     RuleLaws        checks 1, 2, then 6, 5 or 9, as the code goes through them
--     CallLaws        what an accepted call tells, and what each call answers and leaves
--     NumberLaws      an element's number by its five digits
--     OffsetLaws      the digits of each number below the count
--     ElementLaws     numbers and raw indices of elements, no two of them shared
--     IndexLaws       numbers and raw indices, inverse to each other
--     SurfaceLaws     the packed surface, and each byte after packing
--     PositionLaws    the bytes of the elements: own, aligned, inside
--     RoundTrip       what is packed is read back
--     PackLaws        what an accepted packing comes to
--     Claims          the claims about packed weights, of the calls
--     BoundLaws       counts within 64 bits
pub mod Computed
pub mod Valid
pub mod RuleLaws
pub mod CallLaws
pub mod NumberLaws
pub mod OffsetLaws
pub mod ElementLaws
pub mod IndexLaws
pub mod SurfaceLaws
pub mod PositionLaws
pub mod RoundTrip
pub mod PackLaws
pub mod Claims
pub mod BoundLaws
