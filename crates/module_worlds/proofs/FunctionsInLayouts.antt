-- Functions of a table in its layouts.
use Rattle.std.proofs.Common.{◌≡◌, ◌<◌, [], length, ap, arith}
use Rattle.std.proofs.lemmas.List.{length-map}
use Rattle.layout.specs.Layout.{LayoutTable, row_of, layouts_of}
use Rattle.tables.specs.Closed.{closed_types, IsFunction}
use Rattle.tables.specs.declared.tables.FunctionId.{FunctionId}
use Rattle.tables.specs.declared.tables.Resolve.{Resolve}
use Rattle.tables.proofs.ClosedTypesRowByRow.{length-closed_rows, stands}

-- a function has a row
pub function-stands : (r : Resolve) (table : LayoutTable) (f : FunctionId) → table ≡ layouts_of r → IsFunction r f → f.0 < length table.rows
function-stands r table f is h =
    omega (arith, (stands r f h).in_range, ap (λ t. length t.rows) is, length-map (closed_types r) row_of, length-closed_rows [] r.definitions)
