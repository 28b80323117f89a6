-- Whose the rows of a table are.
pub mod WorldsAreApart
pub mod EachRowHasAnOwner
pub mod RowsAreOwned
pub mod UnnamedRowsAreReferredTo
