pub mod Forms
pub mod Parts
pub mod Lengths
