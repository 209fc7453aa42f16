pub mod Clauses
pub mod Answers
pub mod Roots
pub mod Minimal
pub mod Numbers
pub mod Classes
pub mod Truth
pub mod Laws
