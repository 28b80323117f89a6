-- The place-wise join of lists of flat kinds.
use Rattle.std.proofs.Common.{◌≡◌, List, [], ◌∷◌, length, max, refl, ap, arith, ◌∙◌}
use Rattle.canonical_abi.specs.Layout.{join, join_kind}
use Rattle.canonical_abi.specs.declared.flat.CoreKind.{CoreKind}
use Rattle.canonical_abi.specs.declared.flat.CoreKind.TheVariants.{I32, I64}

pub join-nil : (js : List CoreKind) → join js [] ≡ js
join-nil [] = refl
join-nil (j ∷ js) = refl

pub length-join : (js ks : List CoreKind) → length (join js ks) ≡ max (length js) (length ks)
length-join [] ks = omega arith
length-join (j ∷ js) [] = omega arith
length-join (j ∷ js) (k ∷ ks) = let rest = length-join js ks in omega arith

-- ---- joins in another order

join_kind-assoc : (a b c : CoreKind) → join_kind (join_kind a b) c ≡ join_kind a (join_kind b c)
join_kind-assoc I32 I32 I32 = refl
join_kind-assoc I32 I32 I64 = refl
join_kind-assoc I32 I64 I32 = refl
join_kind-assoc I32 I64 I64 = refl
join_kind-assoc I64 I32 I32 = refl
join_kind-assoc I64 I32 I64 = refl
join_kind-assoc I64 I64 I32 = refl
join_kind-assoc I64 I64 I64 = refl

pub join-assoc : (js ks ls : List CoreKind) → join (join js ks) ls ≡ join js (join ks ls)
join-assoc [] ks ls = refl
join-assoc (j ∷ js) [] ls = refl
join-assoc (j ∷ js) (k ∷ ks) [] = refl
join-assoc (j ∷ js) (k ∷ ks) (l ∷ ls) =
    ap (λ (x : CoreKind). x ∷ join (join js ks) ls) (join_kind-assoc j k l) ∙ ap (λ (xs : List CoreKind). join_kind j (join_kind k l) ∷ xs) (join-assoc js ks ls)
