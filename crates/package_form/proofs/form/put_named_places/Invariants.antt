use Rattle.std.proofs.Common.{◌≡◌, ◌++◌, ◌+◌, drop}
use Rattle.package_form.specs.Ids.{places_where}
use Rattle.package_form.specs.Form.{is_named}
use Rattle.package_form.proofs.form.put_named_places.Given as goal

abbrev pub invariant-loop-offset : goal.invariant-loop-offset
invariant-loop-offset l = l.places.items ++ places_where is_named (l.start + l.offset) (drop l.offset l.rows) ≡ places_where is_named l.start l.rows
