pub mod BehindTheory
pub mod HarnessLaws
pub mod KnownTexts
mod Lists
pub mod OutcomeLaws
pub mod OutcomeReading
