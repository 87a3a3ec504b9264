pub mod AnyFile
pub mod Paddings
pub mod Labels
pub mod Texts
pub mod Wordings
pub mod Reports
