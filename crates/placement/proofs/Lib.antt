pub mod PlacedSoFar
pub mod NodesAreSettled
pub mod Examples
mod StraightOrder
