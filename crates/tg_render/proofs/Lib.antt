pub mod Ends
pub mod Writing
mod Bytes
mod Longest
pub mod Forward
pub mod Joined
pub mod Proper
mod KnownTexts
