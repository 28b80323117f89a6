pub mod Cases
pub mod Flats
pub mod Function
pub mod Held
pub mod Orders
pub mod Puts
pub mod Texts
