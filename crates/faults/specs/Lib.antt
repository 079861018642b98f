pub mod Orders
pub mod Refusals
pub mod Rows
pub mod Words
