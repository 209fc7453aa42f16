pub mod LimitedAgrees
pub mod Laws
pub mod KnownLimits
pub mod HeldLaws
pub mod OperatorLaws
pub mod OpeningLaws
pub mod StepLaws
pub mod AnswerLaws
pub mod Unnamed
pub mod Reading
pub mod Numbers
mod KnownNumbers
