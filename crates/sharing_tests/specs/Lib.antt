pub mod EqualShares
pub mod Equally
