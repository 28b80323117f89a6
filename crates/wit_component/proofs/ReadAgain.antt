-- What is written of a package is read again.
pub mod IdsAfterRows
pub mod Aliases
pub mod FullNames
pub mod Interfaces
pub mod KeptAfterOneRow
pub mod ExportedNames
pub mod Packages
pub mod ReadableRows
pub mod WholePackages
pub mod TypesOfRows
pub mod OneRow
pub mod RowsOfInterfaces
pub mod UsedNamesAreFound
pub mod WorldsOfPackages
