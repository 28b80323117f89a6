use Rattle.std.proofs.Common.{sym, ◌∙◌}
use Rattle.package_form.proofs.RowsTakeTypeEntries.{within-entries, few-rows}
use Rattle.package_form.proofs.NamesStandForOneRow.{worlds-parted}
use Rattle.package_form.proofs.form.passes_tests.Goals as goal

pub are_interfaces-requires-clause-few : goal.are_interfaces-requires-clause-few
are_interfaces-requires-clause-few c =
    few-rows c.as_slice-worlds.result.now c.as_slice-rows.result.now _ (within-entries c.as_slice-worlds.result.now c.as_slice-rows.result.now _ c.passes_entries.result c.passes_entries.ensures c.if-passes_entries.false)

pub have_items-requires-clause-parted : goal.have_items-requires-clause-parted
have_items-requires-clause-parted c =
    rw (c.interfaces_end.ensures) (worlds-parted c.as_slice-rows.result.now 0 c.as_slice-interfaces.result.now c.as_slice-worlds.result.now (sym c.is_parted.ensures ∙ c.if-not-is_parted.false))

pub have_items-requires-clause-few : goal.have_items-requires-clause-few
have_items-requires-clause-few c =
    few-rows c.as_slice-worlds.result.now c.as_slice-rows.result.now _ (within-entries c.as_slice-worlds.result.now c.as_slice-rows.result.now _ c.passes_entries.result c.passes_entries.ensures c.if-passes_entries.false)
