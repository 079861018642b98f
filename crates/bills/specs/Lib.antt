pub mod Asking
pub mod Hours
pub mod Provinces
pub mod ProvincesLemmas
pub mod Words
