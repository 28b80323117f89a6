-- A set with a package more: what it has, and that it is a set.
pub mod IsAttached
pub mod LastPackageHasClosedTable
pub mod AttachesAlone
pub mod RowsArePostfix
pub mod NamesTellTheSet
pub mod OwnPartStandsBehind
pub mod ReachesItsClosedTable
pub mod KeepsTower
pub mod IsInTower
pub mod RowsKeepTheirMeaning
pub mod NamesEarlierPackages
pub mod IsPackageByPackage
pub mod PutBehind
pub mod IsInSetForm
pub mod EarlierTablesStay
