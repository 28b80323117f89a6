use Rattle.std.proofs.Common.{◌≡◌, drop}
use Rattle.std.specs.List.{list_all}
use Rattle.package_form.specs.Form.{is_own}
use Rattle.package_form.proofs.form.are_own.Given as goal

abbrev pub invariant-loop-id : goal.invariant-loop-id
invariant-loop-id l = list_all (is_own l.rows l.place) (drop l.id-index l.ids) ≡ list_all (is_own l.rows l.place) l.ids
