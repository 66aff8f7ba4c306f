mod Ordered
mod Reduced
pub mod Listed
mod KeptColumns
mod KeptNames
pub mod Fixed
mod Dropped
mod KeptEntries
mod Marked
mod SortTrue
