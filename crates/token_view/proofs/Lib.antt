pub mod Views
pub mod Tokens
pub mod Same
