pub mod TreesOfExpressions
