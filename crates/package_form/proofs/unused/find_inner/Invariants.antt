use Rattle.std.proofs.Common.{◌≡◌, flat_map, take}
use Rattle.package_form.specs.Unused.{unnamed_at}
use Rattle.package_form.proofs.unused.find_inner.Given as goal

abbrev pub invariant-loop-id : goal.invariant-loop-id
invariant-loop-id l = l.inner.items ≡ flat_map (unnamed_at l.rows) (take l.id-index l.id-items)
