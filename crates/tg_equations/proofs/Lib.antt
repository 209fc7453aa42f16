pub mod PlaceLaws
pub mod HeadLaws
pub mod CoreLaws
pub mod DifferentLaws
pub mod CheckedLaws
pub mod InstanceLaws
pub mod LeftLaws
pub mod TypingLaws
pub mod MatchedLaws
pub mod EachLaws
pub mod BodyLaws
pub mod ShapeLaws
pub mod NamedLaws
mod KnownValues
