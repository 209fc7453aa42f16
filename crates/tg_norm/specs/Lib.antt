pub mod Normal
pub mod Walking
pub mod Halves
pub mod Splits
pub mod Laws
pub mod Items
