-- Laws of the definitions of specs/, for the crates above.
--     Computed        pictures painted and the order, computed
--     RuleLaws        the orders of checks
--     ComponentLaws   where components lie
--     ElementLaws     the elements that a picture becomes
--     CountLaws       how many components are held
--     CallLaws        painting as an edit
--     Claims          the claims about painting
pub mod Computed
pub mod RuleLaws
pub mod ComponentLaws
pub mod ElementLaws
pub mod CountLaws
pub mod CallLaws
pub mod Claims
