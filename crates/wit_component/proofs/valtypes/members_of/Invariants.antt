use Rattle.std.proofs.Common.{◌≡◌, map, take}
use Rattle.wit_component.specs.Rows.{valtype_of}
use Rattle.wit_component.proofs.valtypes.members_of.Given as goal

abbrev pub invariant-loop-ty : goal.invariant-loop-ty
invariant-loop-ty l = l.members.items ≡ map (valtype_of l.indices) (take l.ty-index l.types)
