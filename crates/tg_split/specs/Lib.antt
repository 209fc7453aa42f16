pub mod Shapes
pub mod Patterns
pub mod Laws
pub mod Scopes
pub mod Sizes
pub mod Listing
pub mod Known
