-- How a reading goes on by one member, one field or one case.
use Rattle.std.proofs.Common.{◌≡◌, ℕ, zero, suc, ◌+◌, ◌-◌, ◌*◌, ◌<◌, List, [], ◌∷◌, ◌++◌, Some, None, Result, Ok, Err, refl, sym, ap, ◌∙◌, append_assoc, append-nil, arith}
use Rattle.std.specs.Int.{next_multiple_of}
use Rattle.std.proofs.lemmas.Option.{same_Some}
use Rattle.canonical_abi.specs.Types.{ClosedType, Fields, Cases, no_case, plain_case, case_with, nth_field, nth_case, field_count, AllPlain}
use Rattle.canonical_abi.specs.Layout.{size, align}
use Rattle.canonical_abi.specs.Values.{Value, plain_value, payload_value}
use Rattle.canonical_abi.specs.Reading.{◌>>=◌, each_at, reading, reading_fields, reading_case}
use Rattle.canonical_abi.specs.declared.trap.TrapKind.{TrapKind}
use Rattle.canonical_abi.specs.declared.trap.TrapKind.TheVariants as trap
use Rattle.values.proofs.FieldsFromAPlace.{fields_from, fields-next, fields-last}

-- what is read, with values in front
abbrev pub with_front : List Value → Result (List Value) TrapKind → Result (List Value) TrapKind
with_front front read = read >>= λ vs. Ok (front ++ vs)

pub front-push : (front : List Value) (v : Value) (read : Result (List Value) TrapKind) → with_front (front ++ v ∷ []) read ≡ with_front front (read >>= λ vs. Ok (v ∷ vs))
front-push front v (Ok vs) = ap Ok (append_assoc front (v ∷ []) vs)
front-push front v (Err k) = refl

module _ (f : ℕ → Result Value TrapKind) (step a n i : ℕ) (front : List Value) (whole : Result (List Value) TrapKind) where
  each-next : i < n → each_at f step (a + i * step) (n - i) ≡ (f (a + i * step) >>= λ v. each_at f step (a + (i + 1) * step) (n - (i + 1)) >>= λ vs. Ok (v ∷ vs))
  each-next h =
      let e : n - i ≡ suc (n - (i + 1)) = omega arith in
      let g : a + i * step + step ≡ a + (i + 1) * step = omega arith in
      rw e (rw g refl)

  pub each-more : i < n → with_front front (each_at f step (a + i * step) (n - i)) ≡ whole → (v : Value) → f (a + i * step) ≡ Ok v
      → with_front (front ++ v ∷ []) (each_at f step (a + (i + 1) * step) (n - (i + 1))) ≡ whole
  each-more h w v e = front-push front v _ ∙ ap (with_front front) (sym (each-next h ∙ ap (λ r. r >>= λ v. each_at f step (a + (i + 1) * step) (n - (i + 1)) >>= λ vs. Ok (v ∷ vs)) e)) ∙ w

  pub each-fault : i < n → with_front front (each_at f step (a + i * step) (n - i)) ≡ whole → (k : TrapKind) → f (a + i * step) ≡ Err k → whole ≡ Err k
  each-fault h w k e = sym w ∙ ap (with_front front) (each-next h ∙ ap (λ r. r >>= λ v. each_at f step (a + (i + 1) * step) (n - (i + 1)) >>= λ vs. Ok (v ∷ vs)) e)

  pub each-done : with_front front (each_at f step (a + n * step) (n - n)) ≡ whole → whole ≡ Ok front
  each-done w = let e : n - n ≡ 0 = omega arith in sym w ∙ rw e (ap Ok (append-nil front))

-- ---- fields

module _ (fs : Fields) (m : List ℕ) (a from i : ℕ) (t : ClosedType) (front : List Value) (whole : Result (List Value) TrapKind) where
  pub fields-more : nth_field fs i ≡ Some t → with_front front (reading_fields (fields_from i fs) m a from) ≡ whole → (v : Value) → reading t m (a + next_multiple_of from (align t)) ≡ Ok v
      → with_front (front ++ v ∷ []) (reading_fields (fields_from (i + 1) fs) m a (next_multiple_of from (align t) + size t)) ≡ whole
  fields-more h w v e =
      front-push front v _ ∙ ap (with_front front) (sym (ap (λ fs. reading_fields fs m a from) (fields-next fs i t h)
      ∙ ap (λ r. r >>= λ v. reading_fields (fields_from (i + 1) fs) m a (next_multiple_of from (align t) + size t) >>= λ vs. Ok (v ∷ vs)) e)) ∙ w

  pub fields-fault : nth_field fs i ≡ Some t → with_front front (reading_fields (fields_from i fs) m a from) ≡ whole → (k : TrapKind) → reading t m (a + next_multiple_of from (align t)) ≡ Err k → whole ≡ Err k
  fields-fault h w k e =
      sym w ∙ ap (with_front front) (ap (λ fs. reading_fields fs m a from) (fields-next fs i t h)
      ∙ ap (λ r. r >>= λ v. reading_fields (fields_from (i + 1) fs) m a (next_multiple_of from (align t) + size t) >>= λ vs. Ok (v ∷ vs)) e)

  pub fields-done : field_count fs ≡ i → with_front front (reading_fields (fields_from i fs) m a from) ≡ whole → whole ≡ Ok front
  fields-done h w = sym w ∙ ap (λ fs. with_front front (reading_fields fs m a from)) (fields-last fs i h) ∙ ap Ok (append-nil front)

-- ---- cases

module _ (m : List ℕ) (a i : ℕ) where
  pub case-none : (cs : Cases) (n : ℕ) → nth_case cs n ≡ None → reading_case cs m a i n ≡ Err trap.Case
  case-none no_case n e = refl
  case-none (plain_case cs) zero e = cc
  case-none (plain_case cs) (suc n) e = case-none cs n e
  case-none (case_with t cs) zero e = cc
  case-none (case_with t cs) (suc n) e = case-none cs n e

  pub case-plain : (cs : Cases) (n : ℕ) → nth_case cs n ≡ Some None → reading_case cs m a i n ≡ Ok (plain_value i)
  case-plain no_case n e = cc
  case-plain (plain_case cs) zero e = refl
  case-plain (plain_case cs) (suc n) e = case-plain cs n e
  case-plain (case_with t cs) zero e = cc
  case-plain (case_with t cs) (suc n) e = case-plain cs n e

  pub case-payload : (cs : Cases) (n : ℕ) (t : ClosedType) → nth_case cs n ≡ Some (Some t) → reading_case cs m a i n ≡ (reading t m a >>= λ v. Ok (payload_value i v))
  case-payload no_case n t e = cc
  case-payload (plain_case cs) zero t e = cc
  case-payload (plain_case cs) (suc n) t e = case-payload cs n t e
  case-payload (case_with u cs) zero t e = ap (λ u. reading u m a >>= λ v. Ok (payload_value i v)) (same_Some _ _ (same_Some _ _ e))
  case-payload (case_with u cs) (suc n) t e = case-payload cs n t e

-- a plain case has no payload
pub plain-none : (cs : Cases) (n : ℕ) (t : ClosedType) → AllPlain cs → nth_case cs n ≡ Some (Some t) → ⊥
plain-none no_case n t h e = let none : None ≡ Some (Some t) = e in cc
plain-none (plain_case cs) zero t h e = cc
plain-none (plain_case cs) (suc n) t h e = plain-none cs n t h e
plain-none (case_with u cs) n t h e = h
