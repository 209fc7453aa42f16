mod Lists
mod Chains
mod TypeLaws
mod ValueLaws
mod OperatorLaws
mod TermLaws
mod FormulaLaws
mod ClassLaws
mod KnownTexts
mod NameWords
pub mod ProperTokens
pub mod TypeReading
pub mod ValueReading
mod TermShapes
mod BinderShapes
pub mod TermReading
pub mod FormulaReading
mod NamePlaces
mod RawParts
mod SameTypes
mod SameTerms
mod SameFormulas
mod SameValues
pub mod TypedTexts
mod KnownReadings
