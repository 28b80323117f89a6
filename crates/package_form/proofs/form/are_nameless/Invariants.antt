use Rattle.std.proofs.Common.{◌≡◌, drop}
use Rattle.std.specs.List.{list_all}
use Rattle.package_form.specs.Form.{is_nameless}
use Rattle.package_form.proofs.form.are_nameless.Given as goal

abbrev pub invariant-loop-id : goal.invariant-loop-id
invariant-loop-id l = list_all (is_nameless l.rows) (drop l.id-index l.ids) ≡ list_all (is_nameless l.rows) l.ids
