-- The text is that of the package's table.
use Rattle.std.proofs.Common.{Result, Ok, Err}
use Rattle.std.proofs.Math.Logic.{∥∥₁_map}
use Rattle.std.specs.Prelude.{OnOk}
use Rattle.package_adding.proofs.written.print.Goals as goal

pub print-requires : goal.print-requires
print-requires c = ∥∥₁_map c.in_ok-table.ensures.form (λ f. f.0)

pub returns-clause-ok : goal.returns-clause-ok
returns-clause-ok c = by c.print.result _ _ (λ told. (c.in_ok-table.table, c.in_ok-table.ensures.ok, told)) c.print.ensures.ok
  where
    by : {A E : Type 0} (r : Result A E) (P Q : Type 0) → (P → Q) → OnOk r P → OnOk r Q
    by (Ok a) P Q f h = f h
    by (Err e) P Q f h = tt
