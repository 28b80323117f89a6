use Rattle.std.proofs.Common.{◌≡◌, ◌++◌, map, take}
use Rattle.package_form.proofs.form.push_types.Given as goal

abbrev pub invariant-loop-id : goal.invariant-loop-id
invariant-loop-id l = l.ids.items ≡ l.initial.ids.items ++ map (λ t. t.0) (take l.id-index l.types)
