pub mod Kept
pub mod Loops
pub mod NamesInOrder
