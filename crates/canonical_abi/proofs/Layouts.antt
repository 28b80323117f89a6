-- Sizes, alignments and the places of fields.
pub mod LeastPlaces
pub mod AlignmentsAndSizes
