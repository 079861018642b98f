pub mod Choices
pub mod Letters
pub mod Limits
pub mod Parties
pub mod Words
