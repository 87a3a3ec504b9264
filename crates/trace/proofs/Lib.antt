pub mod Digits
pub mod Chains
pub mod Walks
pub mod Reading
pub mod Spelling
pub mod Faults
pub mod Meanings
