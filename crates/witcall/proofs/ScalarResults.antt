-- The one value of a scalar function's result.
use Rattle.std.proofs.Common.{◌≡◌, ◌≤◌, ◌<◌, ◌+◌, suc, true, false, List, [], ◌∷◌, ◌++◌, Option, Some, None, length, map, refl, sym, ap, ◌∙◌, arith}
use Rattle.std.specs.Prelude.{option_to_list, IsSome, ◌↔◌}
use Rattle.std.proofs.lemmas.List.{length_push}
use Rattle.canonical_abi.specs.Types.{ClosedType, fields_of}
use Rattle.canonical_abi.specs.Values.{Value, HaveTypes}
use Rattle.tables.specs.Closed.{closed_val}
use Rattle.tables.specs.declared.tables.ValType.{ValType}

not_scalar : false ≡ true → ⊥
not_scalar h = cc

-- of at most one value the last is all
pub popped : {A : Type 0} (o : Option A) (xs rest : List A) → length xs ≤ 1 → xs ≡ rest ++ option_to_list o
    → (IsSome o ↔ (0 < length xs)) → option_to_list o ≡ xs
popped None [] rest few is some = refl
popped None (x ∷ xs) rest few is some = absurd (not_scalar (some.1 (omega arith)))
popped (Some x) xs [] few is some = sym is
popped (Some x) xs (y ∷ rest) few is some =
    let many : length xs ≡ suc (length rest + 1) = ap length is ∙ ap suc (length_push rest x) in
    absurd (omega (arith, many))

pub at_most_one : (rows : List ClosedType) (o : Option ValType) (vs : List Value)
    → HaveTypes vs (fields_of (map (closed_val rows) (option_to_list o))) → length vs ≤ 1
at_most_one rows None vs h = omega (arith, ap length h)
at_most_one rows (Some t) vs (v, rest, is, here, none) = omega (arith, ap length (is ∙ ap (λ xs. v ∷ xs) none))
