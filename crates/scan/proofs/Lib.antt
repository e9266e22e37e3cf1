pub mod Classes
pub mod Front
pub mod Written
pub mod ScanInvariant
pub mod Adding
