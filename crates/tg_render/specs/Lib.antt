pub mod Render
pub mod Tokens
pub mod Laws
