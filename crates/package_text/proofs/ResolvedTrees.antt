-- The tree of a table resolves to the package of the table.
pub mod NamesEarlier
pub mod TreeResolvesInPlace
pub mod TreesNameWhatIsKnown
pub mod WrittenNamesAreKnown
pub mod OwnPlacement
pub mod PathsNameImports
pub mod ScopesOfTheTree
pub mod TreesNameEarlierTrees
pub mod TreeResolvesToPackage
