pub mod Closing
pub mod Counting
pub mod Sizes
