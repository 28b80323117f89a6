use Rattle.package_form.proofs.RowsTakeTypeEntries.{passes}
use Rattle.package_form.proofs.entries.passes_rows.Goals as goal

pub returns-then-total-gt-MAX_ENTRIES : goal.returns-then-total-gt-MAX_ENTRIES
returns-then-total-gt-MAX_ENTRIES c =
    passes c.args.rows.now c.loop-row.row-index c.args.before c.loop-row.total c.loop-row.invariant c.if-total-gt-MAX_ENTRIES.true
