pub mod Tests
pub mod OutcomeTexts
pub mod HarnessTexts
pub mod ReadBack
