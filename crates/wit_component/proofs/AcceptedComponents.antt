-- The component of a table in the form of packages is accepted.
pub mod WholeComponents
pub mod DeclaredRows
pub mod StatesBeforeRows
pub mod RowsOfInterfaces
pub mod ItemsOfWorlds
