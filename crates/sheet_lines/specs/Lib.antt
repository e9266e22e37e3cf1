pub mod Sheet
pub mod Steps
pub mod Case12
