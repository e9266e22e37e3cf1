mod Texts
pub mod Answers
mod EndToEnd
pub mod Same
