-- The component is that of the package's table.
use Rattle.std.proofs.Math.Logic.{∥∥₁_map}
use Rattle.package_text.proofs.TableRows.FormOfSingleRows.{form-told}
use Rattle.package_adding.proofs.written.to_raw.Goals as goal

pub component_with_bytes-requires : goal.component_with_bytes-requires
component_with_bytes-requires c = form-told c.in_ok-table.table (∥∥₁_map c.in_ok-table.ensures.form (λ f. f.0))

pub returns : goal.returns
returns c = record { ok = (c.in_ok-table.table, c.in_ok-table.ensures.ok, c.in_ok-raw.ensures.ok) }
