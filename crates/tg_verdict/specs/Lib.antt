pub mod Places
pub mod Records
pub mod Reached
pub mod Verdicts
