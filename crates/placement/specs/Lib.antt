pub mod Order
pub mod Waiting
pub mod Straight
