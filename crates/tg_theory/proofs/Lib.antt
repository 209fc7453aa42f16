pub mod Terms
pub mod Cases
pub mod Taken
pub mod DatatypeFaults
pub mod BuiltLaws
pub mod WholeLaws
pub mod EmbeddingLaws
pub mod Embeddings
pub mod ClosedTypes
pub mod FormedLaws
pub mod LeastLaws
mod TestTheories
