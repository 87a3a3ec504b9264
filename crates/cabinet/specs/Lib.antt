pub mod Model
pub mod Words
pub mod Shelf
pub mod Promise
pub mod Searching
pub mod Calls
pub mod Reading
pub mod Examples
