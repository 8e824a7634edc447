pub mod Reports
pub mod Questions
