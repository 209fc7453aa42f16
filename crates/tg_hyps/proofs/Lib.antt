pub mod EndLaws
pub mod WrittenLaws
pub mod KnownHypotheses
pub mod ClassTruth
pub mod ClosedForm
pub mod TypedValues
