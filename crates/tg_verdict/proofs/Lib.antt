pub mod PlaceLaws
pub mod RecordLaws
pub mod VerdictLaws
