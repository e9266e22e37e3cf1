pub mod Bytes
pub mod Chart
pub mod Slices
pub mod Reduced
pub mod Texts
pub mod Calls
pub mod Kinds
pub mod Demand
