pub mod Hex
pub mod Lines
pub mod Readings
pub mod Tallies
pub mod Texts
