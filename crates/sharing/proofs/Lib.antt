pub mod Dividing
pub mod Totals
