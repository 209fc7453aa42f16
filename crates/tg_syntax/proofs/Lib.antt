pub mod CertificateRules
pub mod DatatypeRules
pub mod DeclarationRules
pub mod Moving
pub mod OutcomeRules
pub mod Parsed
pub mod StepRules
