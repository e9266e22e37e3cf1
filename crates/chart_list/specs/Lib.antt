pub mod Bounds
pub mod Cases
pub mod Line
