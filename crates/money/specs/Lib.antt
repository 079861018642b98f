pub mod Rounding
pub mod Sums
pub mod Tallies
