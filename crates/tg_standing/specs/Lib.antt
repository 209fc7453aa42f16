pub mod TypesOfValues
pub mod Places
pub mod Terms
pub mod Quantified
pub mod Formulas
