-- A result that is lowered as one value, or stored in the return area, is put into the guest's memory as canon lower puts it.
use Rattle.std.proofs.Common.{◌≡◌, inl, inr, ℕ, ◌+◌, ◌≤◌, true, false, nat_le, List, [], ◌∷◌, map, get_or, append-nil, refl, sym, ap, ◌∙◌, subst, arith}
use Rattle.std.specs.Int.{next_multiple_of}
use Rattle.std.proofs.lemmas.Bool.{false≢true, le-leb, leb-true}
use Rattle.canonical_abi.specs.Guest.{Memory, Allocation}
use Rattle.canonical_abi.specs.Layout.{align, size, fits_flat, max_flat_params, max_flat_results}
use Rattle.canonical_abi.specs.Memory.{BlockHolds, BlockFaulty}
use Rattle.canonical_abi.specs.Storing.{Stores, FieldsStore}
use Rattle.canonical_abi.specs.Trace.{Event}
use Rattle.canonical_abi.specs.Types.{ClosedType, no_field, field, record_type}
use Rattle.canonical_abi.specs.Values.{Value, HaveTypes}
use Rattle.canonical_abi.specs.declared.flat.Flat.{Flat}
use Rattle.canonical_abi.specs.declared.trap.Fault.{Fault}
use Rattle.canonical_abi.specs.declared.trap.Fault.TheVariants.{Trap, NoMemory}
use Rattle.canonical_abi.specs.declared.trap.TrapKind.{TrapKind}
use Rattle.lift_lower.specs.Crossing.{AreLowered, LowerFails, IsStoredAt, StoreFails}
use Rattle.values.specs.Val.{value_of}
use Rattle.values.specs.declared.val.Val.{Val}
use Rattle.lift_lower.proofs.OneFieldRecords.{alone-align, alone-size, first-place}
use Rattle.host_values.specs.Results.{IsAnswered, AnswerFails}

-- what goes flat as a result goes flat as parameters
fits-more : (n : ℕ) → nat_le n max_flat_results ≡ true → nat_le n max_flat_params ≡ false → ⊥
fits-more n few many =
    let le : n ≤ max_flat_results = leb-true n max_flat_results few in
    false≢true (sym many ∙ le-leb n max_flat_params (omega (arith, le)))

module _ (allocates : Allocation) (t : ClosedType) (area : ℕ) (old : Memory) where
  module _ (fits : fits_flat max_flat_results (field t no_field) ≡ true) (vs : List Value) where
    pub flat-answered : (given : List Flat) (new : Memory) → AreLowered allocates (field t no_field) vs old given new → IsAnswered allocates (field t no_field) area vs old given new
    flat-answered given new (es, inl (few, lowers), within, leads) = (inl fits, es, inl (fits, lowers), within, leads)
    flat-answered given new (es, inr (many, spilled), within, leads) = absurd (fits-more _ fits many)

    pub flat-fails : (fault : Fault) (new : Memory) → LowerFails allocates (field t no_field) vs old fault new → AnswerFails allocates (field t no_field) area vs old fault new
    flat-fails (Trap u) new (step, es, given, inl (few, lowers), breaks) = (step, inr (inl fits, es, given, inl (fits, lowers), breaks))
    flat-fails (Trap u) new (step, es, given, inr (many, spilled), breaks) = absurd (fits-more _ fits many)
    flat-fails NoMemory new h = absurd h

  module _ (spilled : fits_flat max_flat_results (field t no_field) ≡ false) (v : Value) where
    own-place : area ≡ area + next_multiple_of 0 (align t)
    own-place = let here = first-place t in omega (arith, here)

    block-holds : BlockHolds old.bytes area (align t) (size t) → BlockHolds old.bytes area (align (record_type (field t no_field))) (size (record_type (field t no_field)))
    block-holds h =
        subst (λ (a : ℕ). BlockHolds old.bytes area a (size (record_type (field t no_field)))) (sym (alone-align t)) (subst (λ (n : ℕ). BlockHolds old.bytes area (align t) n) (sym (alone-size t)) h)

    block-faulty : (k : TrapKind) → BlockFaulty old.bytes area (align t) (size t) k
        → BlockFaulty old.bytes area (align (record_type (field t no_field))) (size (record_type (field t no_field))) k
    block-faulty k h =
        subst (λ (a : ℕ). BlockFaulty old.bytes area a (size (record_type (field t no_field))) k) (sym (alone-align t))
        (subst (λ (n : ℕ). BlockFaulty old.bytes area (align t) n k) (sym (alone-size t)) h)

    one-field : (es : List Event) → Stores t area v es → FieldsStore (field t no_field) area 0 (v ∷ []) es
    one-field es stores = (v, [], es, [], refl, sym (append-nil es), subst (λ a. Stores t a v es) own-place stores, (refl, refl))

    pub stored-answered : (new : Memory) → IsStoredAt allocates t area v old new → IsAnswered allocates (field t no_field) area (v ∷ []) old [] new
    stored-answered new (block, es, stores, within, leads) = (inr (spilled, block-holds block), es, inr (spilled, one-field es stores, refl), within, leads)

    pub stored-fails : (fault : Fault) (new : Memory) → StoreFails allocates t area v old fault new → AnswerFails allocates (field t no_field) area (v ∷ []) old fault new
    stored-fails (Trap u) new (step, inl (faulty, same)) = (step, inl ((spilled, block-faulty u.kind faulty), same))
    stored-fails (Trap u) new (step, inr (block, es, stores, breaks)) = (step, inr (inr (spilled, block-holds block), es, [], inr (spilled, one-field es stores, refl), breaks))
    stored-fails NoMemory new h = absurd h

-- the one value of a result
pub one-value : (t : ClosedType) (vs : List Val) (x : Val) → HaveTypes (map value_of vs) (field t no_field) → x ≡ get_or vs 0 x → map value_of vs ≡ value_of x ∷ []
one-value t [] x (v, rest, is, typed, none) e = absurd (cc)
one-value t (y ∷ ys) x (v, rest, is, typed, none) e =
    let tail : map value_of ys ≡ rest = cc in
    ap (λ z. value_of z ∷ map value_of ys) (sym e) ∙ ap (λ l. value_of x ∷ l) (tail ∙ none)
