pub mod NodeLaws
mod JoinLaws
mod UniteLaws
pub mod PartLaws
pub mod Sizes
mod MarkLaws
pub mod GrowthLaws
mod VisitLaws
mod KnownTables
