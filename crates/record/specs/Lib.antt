pub mod Record
pub mod Steps
pub mod Promises
pub mod Alike
pub mod Case12
