pub mod Faults
pub mod Pads
pub mod Reporting
pub mod Writing
