pub mod Borrowing
pub mod Hours
