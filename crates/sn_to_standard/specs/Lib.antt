pub mod Reader
pub mod Converted
pub mod Promises
pub mod Laws
pub mod Items
pub mod Descents
pub mod Copied
