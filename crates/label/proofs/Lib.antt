mod Levels
pub mod Same
