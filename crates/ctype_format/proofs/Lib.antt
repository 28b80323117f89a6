pub mod FullNamesAreTested
mod IndicesOfOneByte
pub mod ScopedTypeViews
pub mod ShortestSpellings
pub mod WrittenDeclarationsAsLists
pub mod Examples
