pub mod Inputs
pub mod Owing
pub mod ThreePartBook
pub mod TwoPartBook
pub mod Formulas
pub mod ThreePartBookLemmas
pub mod TwoPartBookLemmas
