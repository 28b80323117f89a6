use Rattle.std.proofs.Common.{◌≡◌, Some, take}
use Rattle.component_reader.specs.Types.{all_found, val_type}
use Rattle.component_reader.proofs.types.members.Given as goal

abbrev pub invariant-loop-ty : goal.invariant-loop-ty
invariant-loop-ty l = all_found (val_type l.rows) (take l.ty-index l.types) ≡ Some l.members.items
