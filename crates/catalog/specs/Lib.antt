pub mod Refusals
pub mod Gaps
pub mod Rows
pub mod Catalogs
