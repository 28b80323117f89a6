pub mod PlacesOfNamesByMap
pub mod ImportPlaces
pub mod DeclaredTrees
pub mod ImportScopes
pub mod ImportTests
