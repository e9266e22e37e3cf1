pub mod Measures
pub mod PartByPart
pub mod Tallied
pub mod Modes
pub mod TotalText
