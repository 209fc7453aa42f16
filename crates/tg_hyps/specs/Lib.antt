pub mod Written
pub mod Hypotheses
pub mod Meaning
