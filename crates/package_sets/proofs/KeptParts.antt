-- What is kept of a set: places, rows, packages and names.
pub mod KeptTogether
pub mod ClosedTypesStay
pub mod KeptWeighsAtMost
pub mod MarksOfRisingPlaces
pub mod PackagesOfKept
pub mod PropertiesOfKept
pub mod TypeEntriesOfKept
pub mod PlacesOfKept
pub mod KeptRowsArePostfix
pub mod KeptRowsKeepMeaning
pub mod KeptIsATable
pub mod KeptIsPackageByPackage
pub mod KeptTellsTheSame
