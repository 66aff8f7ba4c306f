pub mod ColumnOrder
pub mod CheckNames
pub mod Schemas
pub mod Clashes
pub mod Lookups
pub mod Merges
pub mod NamedFields
