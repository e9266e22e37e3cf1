pub mod Counting
pub mod OneText
pub mod Spaced
