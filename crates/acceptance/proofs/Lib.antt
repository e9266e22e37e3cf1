pub mod Written
pub mod Refusals
pub mod Accepted
pub mod FirstHalf
pub mod SecondHalf
pub mod Conversion
pub mod EveryMeasure
