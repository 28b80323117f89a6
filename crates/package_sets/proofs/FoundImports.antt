-- The imports of a closed table, and where a set has them.
pub mod AskedOneByOne
pub mod BeginsWithImports
pub mod ImportsAreFound
pub mod HasAllImports
pub mod OfImports
