pub mod Sums
pub mod Promises
pub mod Laws
