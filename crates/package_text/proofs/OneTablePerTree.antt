-- A tree resolves to one table.
pub mod TreesTellRows
pub mod UnnamedRowsOfTrees
pub mod HasOneClosedTable
pub mod SameNamesSameRows
pub mod TreeIsToldByNames
pub mod WorldsAreToldByMeaning
