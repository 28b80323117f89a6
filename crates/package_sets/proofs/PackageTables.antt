-- The table of one package of a set.
pub mod RowsAreInForm
pub mod OfRestricted
pub mod NeededPackages
pub mod TableIsInForm
pub mod AloneIsWhole
