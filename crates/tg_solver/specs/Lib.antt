pub mod Numbers
pub mod Draws
pub mod Candidates
pub mod Walk
pub mod Laws
