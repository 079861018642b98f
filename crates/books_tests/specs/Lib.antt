pub mod PoolBook
pub mod Pooling
