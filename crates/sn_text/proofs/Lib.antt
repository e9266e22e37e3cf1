pub mod Groups
pub mod SnParts
pub mod SnThree
pub mod Zipped
