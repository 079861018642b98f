pub mod Adding
pub mod Asking
pub mod Balance
pub mod Netting
pub mod Settling
pub mod Tabling
