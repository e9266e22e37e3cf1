pub mod Measured
pub mod Words
pub mod Buffer
pub mod Runs
pub mod MayFollow
pub mod Parts
pub mod Three
