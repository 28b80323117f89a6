-- How a lifting goes on by one field or one case.
use Rattle.std.proofs.Common.{◌≡◌, ℕ, zero, suc, ◌+◌, ◌-◌, ◌≤◌, List, [], ◌∷◌, ◌++◌, length, map, take, drop, zero-add, length-drop, Some, None, Result, Ok, Err, refl, sym, ap, ◌∙◌, append-nil, length-append, arith}
use Rattle.std.proofs.lemmas.List.{take_all, drop-map}
use Rattle.std.proofs.lemmas.Option.{same_Some}
use Rattle.canonical_abi.specs.Types.{ClosedType, Fields, Cases, no_case, plain_case, case_with, nth_field, nth_case, field_count}
use Rattle.canonical_abi.specs.Values.{Value, plain_value, payload_value}
use Rattle.canonical_abi.specs.Layout.{flat_kinds, field_kinds, payload_kinds}
use Rattle.canonical_abi.specs.Reading.{◌>>=◌, number_of, lifting, lifting_fields, lifting_case}
use Rattle.canonical_abi.specs.declared.flat.Flat.{Flat}
use Rattle.canonical_abi.specs.declared.trap.TrapKind.{TrapKind}
use Rattle.canonical_abi.specs.declared.trap.TrapKind.TheVariants as trap
use Rattle.layout.proofs.JoinsOfFlatKinds.{length-join}
use Rattle.lift_lower.proofs.ReadingStepByStep.{with_front, front-push}
use Rattle.values.proofs.FieldsFromAPlace.{fields_from, fields-next, fields-last}

drop-nil : {A : Type 0} (n : ℕ) → ◌≡◌ {A = List A} (drop n []) []
drop-nil zero = refl
drop-nil (suc n) = refl

pub drop-more : {A : Type 0} (a b : ℕ) (xs : List A) → drop b (drop a xs) ≡ drop (a + b) xs
drop-more zero b xs = ap (λ n. drop n xs) (sym (zero-add b))
drop-more (suc a) b [] = drop-nil b ∙ sym (drop-nil (suc a + b))
drop-more (suc a) b (x ∷ xs) =
    let e : suc a + b ≡ suc (a + b) = omega arith in
    drop-more a b xs ∙ ap (λ n. drop n (x ∷ xs)) (sym e)

-- the numbers of the flat values from a place on
pub rest-numbers : (flats : List Flat) (used : ℕ) → map number_of (take (length flats - used) (drop used flats)) ≡ drop used (map number_of flats)
rest-numbers flats used =
    ap (map number_of) (take_all (length flats - used) (drop used flats) (omega (arith, length-drop used flats))) ∙ sym (drop-map number_of used flats)

pub rest-length : (flats : List Flat) (used : ℕ) → length (take (length flats - used) (drop used flats)) ≡ length flats - used
rest-length flats used =
    ap length (take_all (length flats - used) (drop used flats) (omega (arith, length-drop used flats))) ∙ length-drop used flats

module _ (fs : Fields) (m ns : List ℕ) (i used : ℕ) (t : ClosedType) (front : List Value) (whole : Result (List Value) TrapKind) where
  lifting-next : nth_field fs i ≡ Some t → lifting_fields (fields_from i fs) m (drop used ns)
      ≡ (lifting t m (drop used ns) >>= λ v. lifting_fields (fields_from (i + 1) fs) m (drop (used + length (flat_kinds t)) ns) >>= λ vs. Ok (v ∷ vs))
  lifting-next h =
      ap (λ us. lifting_fields us m (drop used ns)) (fields-next fs i t h)
      ∙ ap (λ xs. lifting t m (drop used ns) >>= λ v. lifting_fields (fields_from (i + 1) fs) m xs >>= λ vs. Ok (v ∷ vs)) (drop-more used (length (flat_kinds t)) ns)

  pub lifting-more : nth_field fs i ≡ Some t → with_front front (lifting_fields (fields_from i fs) m (drop used ns)) ≡ whole → (v : Value) → lifting t m (drop used ns) ≡ Ok v
      → with_front (front ++ v ∷ []) (lifting_fields (fields_from (i + 1) fs) m (drop (used + length (flat_kinds t)) ns)) ≡ whole
  lifting-more h w v e =
      front-push front v _ ∙ ap (with_front front) (sym (lifting-next h
      ∙ ap (λ r. r >>= λ v. lifting_fields (fields_from (i + 1) fs) m (drop (used + length (flat_kinds t)) ns) >>= λ vs. Ok (v ∷ vs)) e)) ∙ w

  pub lifting-fault : nth_field fs i ≡ Some t → with_front front (lifting_fields (fields_from i fs) m (drop used ns)) ≡ whole → (k : TrapKind) → lifting t m (drop used ns) ≡ Err k → whole ≡ Err k
  lifting-fault h w k e =
      sym w ∙ ap (with_front front) (lifting-next h
      ∙ ap (λ r. r >>= λ v. lifting_fields (fields_from (i + 1) fs) m (drop (used + length (flat_kinds t)) ns) >>= λ vs. Ok (v ∷ vs)) e)

  pub lifting-done : field_count fs ≡ i → with_front front (lifting_fields (fields_from i fs) m (drop used ns)) ≡ whole → whole ≡ Ok front
  lifting-done h w = sym w ∙ ap (λ us. with_front front (lifting_fields us m (drop used ns))) (fields-last fs i h) ∙ ap Ok (append-nil front)

-- the kinds of the fields that are left
pub kinds-next : (fs : Fields) (i : ℕ) (t : ClosedType) → nth_field fs i ≡ Some t → length (field_kinds (fields_from i fs)) ≡ length (flat_kinds t) + length (field_kinds (fields_from (i + 1) fs))
kinds-next fs i t h = ap (λ us. length (field_kinds us)) (fields-next fs i t h) ∙ length-append (flat_kinds t) (field_kinds (fields_from (i + 1) fs))

-- ---- cases

module _ (m ns : List ℕ) (i : ℕ) where
  pub lifts-none : (cs : Cases) (n : ℕ) → nth_case cs n ≡ None → lifting_case cs m ns i n ≡ Err trap.Case
  lifts-none no_case n e = refl
  lifts-none (plain_case cs) zero e = cc
  lifts-none (plain_case cs) (suc n) e = lifts-none cs n e
  lifts-none (case_with t cs) zero e = cc
  lifts-none (case_with t cs) (suc n) e = lifts-none cs n e

  pub lifts-plain : (cs : Cases) (n : ℕ) → nth_case cs n ≡ Some None → lifting_case cs m ns i n ≡ Ok (plain_value i)
  lifts-plain no_case n e = cc
  lifts-plain (plain_case cs) zero e = refl
  lifts-plain (plain_case cs) (suc n) e = lifts-plain cs n e
  lifts-plain (case_with t cs) zero e = cc
  lifts-plain (case_with t cs) (suc n) e = lifts-plain cs n e

  pub lifts-payload : (cs : Cases) (n : ℕ) (t : ClosedType) → nth_case cs n ≡ Some (Some t) → lifting_case cs m ns i n ≡ (lifting t m ns >>= λ v. Ok (payload_value i v))
  lifts-payload no_case n t e = cc
  lifts-payload (plain_case cs) zero t e = cc
  lifts-payload (plain_case cs) (suc n) t e = lifts-payload cs n t e
  lifts-payload (case_with u cs) zero t e = ap (λ u. lifting u m ns >>= λ v. Ok (payload_value i v)) (same_Some _ _ (same_Some _ _ e))
  lifts-payload (case_with u cs) (suc n) t e = lifts-payload cs n t e

-- a payload's kinds are no more than the join of all
pub payload-kinds : (cs : Cases) (n : ℕ) (t : ClosedType) → nth_case cs n ≡ Some (Some t) → length (flat_kinds t) ≤ length (payload_kinds cs)
payload-kinds no_case n t e = absurd (let h : None ≡ Some (Some t) = e in cc)
payload-kinds (plain_case cs) zero t e = cc
payload-kinds (plain_case cs) (suc n) t e = payload-kinds cs n t e
payload-kinds (case_with u cs) zero t e =
    let same : u ≡ t = cc in
    let here : length (flat_kinds u) ≡ length (flat_kinds t) = ap (λ v. length (flat_kinds v)) same in
    omega (arith, length-join (flat_kinds u) (payload_kinds cs))
payload-kinds (case_with u cs) (suc n) t e =
    let h = payload-kinds cs n t e in omega (arith, length-join (flat_kinds u) (payload_kinds cs))
