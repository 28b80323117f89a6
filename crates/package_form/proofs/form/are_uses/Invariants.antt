use Rattle.std.proofs.Common.{◌≡◌, drop}
use Rattle.std.specs.List.{list_all}
use Rattle.package_form.specs.Form.{is_use_at}
use Rattle.package_form.proofs.form.are_uses.Given as goal

abbrev pub invariant-loop-id : goal.invariant-loop-id
invariant-loop-id l = list_all (is_use_at l.rows) (drop l.id-index l.ids) ≡ list_all (is_use_at l.rows) l.ids
