pub mod Added
pub mod Alone
pub mod ImportNames
pub mod Named
pub mod Asked
