pub mod Written
pub mod Tree
pub mod Text
pub mod Pieces
pub mod Writable
pub mod Imports
pub mod Laws
