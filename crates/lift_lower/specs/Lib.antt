pub mod Crossing
pub mod NoValue
pub mod Loading
pub mod Lowered
pub mod Placing
pub mod Scripts
pub mod Heads
pub mod ScalarLists
