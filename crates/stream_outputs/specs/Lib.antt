pub mod Promises
pub mod Pass
