use Rattle.std.proofs.Common.{◌≡◌, ◌++◌, drop}
use Rattle.ctype_format.specs.Writing.{each, counted, type_bytes}
use Rattle.ctype_format.specs.View.{type_view}
use Rattle.ctype_format.specs.Formed.{All, FormedType}
use Rattle.ctype_format.proofs.writing.put_types.Given as goal

abbrev pub invariant-loop-ty : goal.invariant-loop-ty
invariant-loop-ty l = (l.out.items ++ each (λ t. type_bytes (type_view t)) (drop l.ty-index l.types) ≡ l.fn.out.items ++ counted (λ t. type_bytes (type_view t)) l.types) × (All (λ t. FormedType (type_view t)) (drop l.ty-index l.types) → All (λ t. FormedType (type_view t)) l.types)
