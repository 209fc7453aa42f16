pub mod Code
pub mod Inside
pub mod Owners
pub mod View
