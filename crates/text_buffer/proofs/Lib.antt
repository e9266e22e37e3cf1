pub mod Bytes
pub mod Added
pub mod Reached
pub mod Reading
pub mod ThreeTexts
pub mod Table
