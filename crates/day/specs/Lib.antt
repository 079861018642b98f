pub mod Charges
pub mod Funding
