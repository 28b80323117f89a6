pub mod KeptElementsAndPlaces
pub mod MarksOfReached
pub mod OwnersOfRows
pub mod PaddedMarks
pub mod PlacesOfMarked
pub mod Examples
