pub mod Refusals
pub mod Theorems
pub mod Listing
pub mod Comparing
pub mod Words
pub mod Texts
pub mod Scans
pub mod Examples
