pub mod Asked
pub mod Indexed
pub mod Sides
