pub mod TextParts
pub mod FromPage
pub mod ToPage
pub mod Readings
mod WordKinds
mod KnownReadings
