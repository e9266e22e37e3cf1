pub mod Lines
pub mod Bytes
pub mod First
pub mod Passing
pub mod Reading
pub mod Laws
pub mod Table
