pub mod Sn
pub mod SnParts
pub mod SnThree
