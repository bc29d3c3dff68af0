pub mod PrintLaws
pub mod Claims
