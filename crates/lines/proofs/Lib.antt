-- Laws of the definitions of specs/.
--     SplitLaws    the first part of a text, and the parts behind it
--     TextLaws     two texts compared, a list with 0 behind it
--     NumberLaws   the number that a text is, digit by digit
--     TableLaws    the numbers behind a word, field by field
--     StepLaws     the code's steps come to the definitions
--     HoldLaws     a collected line holds its text
--     CollectLaws  one call of `collect`, in terms of the lines of the whole input
--     DigitLaws    decimal digits, how many there are, and written from the last one on
--     DecimalLaws  decimal digits are the number's
--     SumLaws      the checksum of bytes one after another
--     Claims       a number's digits are read as that number
--     Computed     lines, numbers and digits, computed
pub mod SplitLaws
pub mod TextLaws
pub mod NumberLaws
pub mod TableLaws
pub mod StepLaws
pub mod HoldLaws
pub mod CollectLaws
pub mod DigitLaws
pub mod DecimalLaws
pub mod SumLaws
pub mod Computed
pub mod Claims
