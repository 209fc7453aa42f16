pub mod OwnerLaws
pub mod Finding
