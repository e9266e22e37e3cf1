pub mod Domain
pub mod Tokens
pub mod Active
