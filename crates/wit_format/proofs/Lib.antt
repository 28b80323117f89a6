pub mod SameKinds
pub mod SameSolids
