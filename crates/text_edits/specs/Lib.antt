pub mod Splices
pub mod Positions
