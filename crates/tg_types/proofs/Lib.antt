mod SubstitutionLaws
mod WalkLaws
mod Arguments
mod Steps
pub mod PutLater
