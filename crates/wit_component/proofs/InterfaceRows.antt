-- The rows of an interface in package form.
pub mod HasOwnIds
pub mod NoneUnusedAtTheEnd
pub mod FactsOfInterfaces
pub mod RowsStandInOrder
pub mod FactsOfRows
pub mod RowsBetweenPlaces
pub mod UsesFirst
