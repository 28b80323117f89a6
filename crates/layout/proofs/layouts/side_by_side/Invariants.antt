use Rattle.std.proofs.Common.{◌≡◌, [], fold, take}
use Rattle.layout.specs.Kinds.{kinds_of, append_kinds}
use Rattle.layout.specs.Rows.{rows_at}
use Rattle.layout.proofs.layouts.side_by_side.Given as goal

abbrev pub invariant-loop-ty : goal.invariant-loop-ty
invariant-loop-ty l =
    l.kinds ≡ fold (λ ks r. append_kinds ks r.kinds) (kinds_of []) (rows_at l.rows (λ v. v) (take l.ty-index l.types))
