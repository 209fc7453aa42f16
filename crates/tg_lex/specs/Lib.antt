pub mod Bytes
pub mod Grammar
pub mod Scan
pub mod Answers
pub mod Load
pub mod KnownValues
pub mod Laws
