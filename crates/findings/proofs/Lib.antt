pub mod Bringing
pub mod Calling
pub mod Holding
pub mod Parting
pub mod Playing
pub mod Telling
pub mod Worked
