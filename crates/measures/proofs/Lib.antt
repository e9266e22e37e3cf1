pub mod Stepping
pub mod Stretch
pub mod Part
