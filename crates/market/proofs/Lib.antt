pub mod Limited
pub mod Naming
