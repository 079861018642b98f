pub mod Lending
pub mod Pricing
pub mod Rows
pub mod Searching
