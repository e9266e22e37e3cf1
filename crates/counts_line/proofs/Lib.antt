pub mod Numbers
pub mod Lines
pub mod Bound
pub mod Answers
pub mod Same
pub mod Laws
