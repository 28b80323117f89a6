use Rattle.std.proofs.Common.{◌≡◌, ◌≤◌, max, fold}
use Rattle.canonical_abi.specs.Layout.{field_extents, greatest_align}
use Rattle.values.specs.Members.{fields_of_types}
use Rattle.values.proofs.FieldsFromAPlace.{fields_from, fields_end}
use Rattle.values.proofs.types.Types.extent_within.Given as goal

abbrev pub invariant-loop-index : goal.invariant-loop-index
invariant-loop-index l =
    let fs = fields_of_types l.self l.types in
    (fields_end l.end (fields_from l.index fs) ≡ fields_end 0 fs)
    × (fold (λ n x. max n x.align) l.align (field_extents (fields_from l.index fs)) ≡ greatest_align (field_extents fs))
    × (1 ≤ l.align)
    × (l.end ≤ 16777216)
