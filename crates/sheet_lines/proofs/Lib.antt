pub mod Same
pub mod Lines
pub mod Numbers
pub mod Cutting
pub mod Bound
pub mod Charted
pub mod Reading
pub mod Case12
