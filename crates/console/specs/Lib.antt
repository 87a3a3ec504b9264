pub mod Refusals
pub mod Parts
pub mod Filtering
pub mod Texts
