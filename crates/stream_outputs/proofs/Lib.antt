pub mod Same
mod Room
mod Pass
mod FewTokens
