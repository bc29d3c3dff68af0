pub mod Requests
pub mod Reports
