pub mod Exact
pub mod Joining
pub mod Near
pub mod Products
pub mod Sizes
pub mod Summing
