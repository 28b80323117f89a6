use Rattle.package_form.proofs.RowsTakeTypeEntries.{worlds-pass}
use Rattle.package_form.proofs.entries.passes_entries.Goals as goal

pub returns-then-total-gt-MAX_ENTRIES : goal.returns-then-total-gt-MAX_ENTRIES
returns-then-total-gt-MAX_ENTRIES c =
    worlds-pass c.args.worlds.now c.args.rows.now c.loop-world.world-index c.args.interfaces c.loop-world.total c.loop-world.invariant c.if-total-gt-MAX_ENTRIES.true
