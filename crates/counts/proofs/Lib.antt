pub mod TokenSums
pub mod Tallied
pub mod Shared
pub mod Same
pub mod Laws
