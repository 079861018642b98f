pub mod Ascents
pub mod Firsts
