pub mod Finding
pub mod Parting
pub mod Pulses
pub mod Reporting
