pub mod Nodes
pub mod Pairs
pub mod Settled
pub mod Uniting
pub mod View
pub mod Marks
pub mod Growth
