pub mod Texts
pub mod Numbers
pub mod Collecting
pub mod Digits
pub mod Sums
pub mod Feeding
