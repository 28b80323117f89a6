pub mod KnownScopes
pub mod Sources
pub mod Lent
pub mod Tested
