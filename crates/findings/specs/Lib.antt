pub mod Refusals
pub mod Framing
pub mod Sessions
pub mod Texts
pub mod Reports
pub mod Examples
pub mod Desks
