pub mod Standard
pub mod Filled
pub mod StandardParts
pub mod StandardThree
