pub mod CountsLine
pub mod Promises
pub mod Laws
