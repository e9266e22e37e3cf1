pub mod Pieces
pub mod StandardParts
pub mod StandardThree
