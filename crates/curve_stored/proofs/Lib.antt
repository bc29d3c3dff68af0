-- Laws of the stored entries.
--     StoredLaws     a stored curve by one test of all its entries
pub mod StoredLaws
