pub mod Stretches
pub mod Written
pub mod Same
