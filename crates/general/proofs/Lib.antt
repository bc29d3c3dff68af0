-- General laws, of no crate's definitions.
--     TestLaws     the parts of a test that holds
--     UpDown       whole numbers for linear arithmetic
--     FloorLaws    the shift down
--     Ranges       whole numbers by magnitude
--     Casts        signed numbers as the code holds them
--     NumberLaws   powers of two, signs, ranges, a number of a type read back
--     SignedLaws   whole numbers from -h to h - 1, and naturals below 2 * h
--     ListLaws     arrays as lists
--     Toward       lists that come nearer to a goal list
--     NestLaws     what a nest of two loops has done
pub mod TestLaws
pub mod UpDown
pub mod FloorLaws
pub mod Ranges
pub mod Casts
pub mod NumberLaws
pub mod SignedLaws
pub mod ListLaws
pub mod Toward
pub mod NestLaws
