use Rattle.std.proofs.Common.{◌≡◌, ◌++◌, map, drop}
use Rattle.package_form.specs.Form.{ids_of}
use Rattle.package_form.proofs.form.put_ids.Given as goal

abbrev pub invariant-loop-id : goal.invariant-loop-id
invariant-loop-id l = l.ids.items ++ map (λ f. f.0) (drop l.id-index l.id-items) ≡ ids_of l.fn.interface
