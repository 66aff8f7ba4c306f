pub mod Meant
pub mod Determined
pub mod GroupBy
pub mod GroupByLaws
pub mod Sorts
pub mod SortLaws
