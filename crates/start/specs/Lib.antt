pub mod Start
pub mod StartChecks
pub mod StartKept
pub mod StartPlaces
pub mod StartWords
