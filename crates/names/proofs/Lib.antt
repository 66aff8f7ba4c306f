pub mod Refused
pub mod FirstPlaces
pub mod Same
