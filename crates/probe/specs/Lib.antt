pub mod Refusals
pub mod Framing
pub mod Tasks
pub mod Answers
pub mod Texts
pub mod Reports
