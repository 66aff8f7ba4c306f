pub mod Keys
pub mod Same
pub mod SameLaws
pub mod View
