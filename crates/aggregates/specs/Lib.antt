pub mod Aggregates
pub mod Targets
pub mod TargetLaws
pub mod Grouped
