-- The places so far tell the fields so far, and those behind all of them are as they were.
use Rattle.std.proofs.Common.{◌≡◌, map, take, drop}
use Rattle.canonical_abi.specs.Types.{record_fields}
use Rattle.canonical_abi.specs.Layout.{field_extents, field_places}
use Rattle.tables.specs.Closed.{closed_type}
use Rattle.host_calls.specs.Parts.{extent_of_part}
use Rattle.host_calls.proofs.parts.parameter_parts.Given as goal

abbrev pub invariant-loop-place : goal.invariant-loop-place
invariant-loop-place l =
    (map extent_of_part (take l.place l.out) ≡ take l.place (field_extents (record_fields (closed_type l.types l.row))))
    × (map (λ p. p.offset) (take l.place l.out) ≡ take l.place (field_places (record_fields (closed_type l.types l.row))))
    × (drop l.count l.out ≡ drop l.count l.initial.out)
