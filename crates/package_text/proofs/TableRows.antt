-- The rows of a table in the form of packages, interface by interface.
pub mod OwnInterfacesBegin
pub mod WorldRowsStandLast
pub mod FormOfSingleRows
pub mod RowsReadByEarlierRows
pub mod ImportsStandFirst
pub mod RowsNameEarlierRows
pub mod LocalRows
pub mod DefinitionsByInterface
pub mod IdsAreRowPlaces
pub mod RowsAreLocal
pub mod AreRegions
pub mod RowsReadAsTrees
pub mod RowsStandForTrees
pub mod ItemsOfWorlds
