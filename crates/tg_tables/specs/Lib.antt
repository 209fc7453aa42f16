pub mod Rows
pub mod SymbolCodes
pub mod Lists
pub mod KnownValues
