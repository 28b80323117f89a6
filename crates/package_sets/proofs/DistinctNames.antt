-- Names that differ: in closed tables, in sets and in what is kept of them.
pub mod InterfaceNamesApart
pub mod ScopesOfKept
pub mod ScopesByRows
pub mod ScopesOfSets
pub mod SetNamesStandForOne
pub mod SomeOfDistinctNames
