pub mod Apart
pub mod Json
pub mod Writing
pub mod Laws
pub mod ByNames
