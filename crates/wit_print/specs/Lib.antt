pub mod Words
pub mod Canonical
pub mod Printable
pub mod Unplaced
pub mod Laws
pub mod Pieces
pub mod Adding
