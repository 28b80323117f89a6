-- A type of a table, by its closed type.
use Rattle.std.specs.Prelude.{ℕ}
use Rattle.canonical_abi.specs.Types.{ClosedType}
use Rattle.layout.specs.Queries.{IsShaped}
use Rattle.layout.specs.declared.queries.Shape.{Shape}
use Rattle.tables.specs.Closed.{closed_type}
use Rattle.tables.specs.declared.tables.Resolve.{Resolve}
use Rattle.tables.specs.declared.tables.ValType.{ValType}

-- the closed type of a type of this table
abbrev pub closed_of : Resolve × ValType → ClosedType
closed_of t = closed_type t.0 t.1

-- the shape of a type of this table
abbrev pub IsShape : Resolve × ValType → Shape → Type 0
IsShape t s = (rows : ℕ) × IsShaped (closed_type t.0) rows (closed_of t) s
