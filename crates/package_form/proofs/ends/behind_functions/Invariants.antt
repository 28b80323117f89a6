use Rattle.std.proofs.Common.{◌≡◌, take}
use Rattle.package_form.specs.Ends.{behind_functions}
use Rattle.package_form.proofs.ends.behind_functions.Given as goal

abbrev pub invariant-loop-id : goal.invariant-loop-id
invariant-loop-id l = l.end ≡ behind_functions l.initial.end (take l.id-index l.ids)
