-- The scripts of each kind of type, by those of its parts.
use Rattle.std.proofs.Common.{◌≡◌, ◌⊎◌, inl, inr, ℕ, zero, suc, ◌+◌, ◌*◌, ◌^◌, ◌<◌, List, [], ◌∷◌, ◌++◌, length, Option, Some, None, refl, sym, ap, ◌∙◌, subst}
use Rattle.std.specs.Int.{w32, next_multiple_of, to_le_bytes}
use Rattle.canonical_abi.specs.Types.{ClosedType, list_type, record_type, variant_type, Fields, no_field, field, Cases, no_case, plain_case, case_with, case_count, nth_case}
use Rattle.canonical_abi.specs.Values.{Value, values_of, list_value, record_value, plain_value, payload_value}
use Rattle.canonical_abi.specs.Layout.{align, size, discriminant_size, payload_place}
use Rattle.canonical_abi.specs.Memory.{BlockHolds, EachHolds, Holds, CaseHolds, Faulty}
use Rattle.canonical_abi.specs.Reading.{number_at, byte_width, case_number}
use Rattle.canonical_abi.specs.Storing.{pointer_pair, IsBlock, Stores, CaseStores}
use Rattle.canonical_abi.specs.Script.{StoresUntil, CaseStoresUntil}
use Rattle.canonical_abi.specs.Trace.{Grant, Event, node, grant, write}
use Rattle.canonical_abi.specs.Laws.{ReadsExactly}
use Rattle.canonical_abi.specs.declared.trap.TrapKind.{TrapKind}
use Rattle.canonical_abi.specs.declared.trap.TrapKind.TheVariants as trap
use Rattle.values.specs.Bytes.{AreBytes}
use Rattle.lift_lower.proofs.HeldValuesAreTyped.{holds-typed}
use Rattle.lift_lower.proofs.EachValueHasAScript.{stores-script}
use Rattle.lift_lower.proofs.EventsBeforeFirstFault.{stores-until}
use Rattle.std.proofs.lemmas.Option.{same_Some}
use Rattle.crossing.specs.Outcome.{Walks, EachWalks, FieldsWalk, Behind}

-- ---- a script always is

module _ (m : List ℕ) (bytes : AreBytes m) (short : length m < 2 ^ 32) (exactly : ReadsExactly) where
  pub walk-some : (t : ClosedType) (a at : ℕ) → (o : Option TrapKind) × (es : List Event) × Walks t m a at o es
  walk-some t a at = by (exactly t m a).some
    where
      by : ((v : Value) × Holds t m a v) ⊎ ((k : TrapKind) × Faulty t m a k) → (o : Option TrapKind) × (es : List Event) × Walks t m a at o es
      by (inl (v, held)) = let s = stores-script t at v (holds-typed m bytes short t a v held) in (None, s.0, (v, held, s.1))
      by (inr (k, faulty)) = let u = stores-until m bytes short t a at k faulty in (Some k, u.0, u.1)

-- ---- the fields of a record

module _ (t : ClosedType) (fs : Fields) (m : List ℕ) (a at from : ℕ) where
  pub field-stops : (k : TrapKind) (first : List Event) → Walks t m (a + next_multiple_of from (align t)) (at + next_multiple_of from (align t)) (Some k) first → FieldsWalk (field t fs) m a at from (Some k) first
  field-stops k first h = inl h

  pub field-joins : (first : List Event) (o : Option TrapKind) (rest : List Event) → Walks t m (a + next_multiple_of from (align t)) (at + next_multiple_of from (align t)) None first
      → FieldsWalk fs m a at (next_multiple_of from (align t) + size t) o rest → FieldsWalk (field t fs) m a at from o (first ++ rest)
  field-joins first None rest (v, held, stored) (vs, helds, storeds) = (v ∷ vs, (v, vs, refl, held, helds), (v, vs, first, rest, refl, refl, stored, storeds))
  field-joins first (Some k) rest (v, held, stored) stops = inr (v, first, rest, refl, held, stored, stops)

pub fields-none : (m : List ℕ) (a at from : ℕ) → FieldsWalk no_field m a at from None []
fields-none m a at from = ([], refl, (refl, refl))

-- ---- elements

module _ (t : ClosedType) (m : List ℕ) (a at n : ℕ) where
  pub each-stops : (k : TrapKind) (first : List Event) → Walks t m a at (Some k) first → EachWalks t m a at (suc n) (Some k) first
  each-stops k first h = inl h

  pub each-joins : (first : List Event) (o : Option TrapKind) (rest : List Event) → Walks t m a at None first → EachWalks t m (a + size t) (at + size t) n o rest → EachWalks t m a at (suc n) o (first ++ rest)
  each-joins first None rest (v, held, stored) (vs, helds, storeds) = (v ∷ vs, (v, vs, refl, held, helds), (first, rest, refl, stored, storeds))
  each-joins first (Some k) rest (v, held, stored) stops = inr (v, first, rest, refl, held, stored, stops)

pub each-none : (t : ClosedType) (m : List ℕ) (a at : ℕ) → EachWalks t m a at 0 None []
each-none t m a at = ([], refl, refl)

module _ (m : List ℕ) (bytes : AreBytes m) (short : length m < 2 ^ 32) (exactly : ReadsExactly) where
  pub fields-some : (fs : Fields) (a at from : ℕ) → (o : Option TrapKind) × (es : List Event) × FieldsWalk fs m a at from o es
  fields-some no_field a at from = (None, [], fields-none m a at from)
  fields-some (field t fs) a at from =
      let place = next_multiple_of from (align t) in
      by (walk-some m bytes short exactly t (a + place) (at + place)) (fields-some fs a at (place + size t))
    where
      by : ((o : Option TrapKind) × (es : List Event) × Walks t m (a + next_multiple_of from (align t)) (at + next_multiple_of from (align t)) o es)
          → ((o : Option TrapKind) × (es : List Event) × FieldsWalk fs m a at (next_multiple_of from (align t) + size t) o es)
          → (o : Option TrapKind) × (es : List Event) × FieldsWalk (field t fs) m a at from o es
      by (Some k, es, h) more = (Some k, es, inl h)
      by (None, es, h) (o, more, v) = (o, es ++ more, field-joins t fs m a at from es o more h v)

  pub each-some : (t : ClosedType) (n a at : ℕ) → (o : Option TrapKind) × (es : List Event) × EachWalks t m a at n o es
  each-some t zero a at = (None, [], each-none t m a at)
  each-some t (suc n) a at = by (walk-some m bytes short exactly t a at) (each-some t n (a + size t) (at + size t))
    where
      by : ((o : Option TrapKind) × (es : List Event) × Walks t m a at o es) → ((o : Option TrapKind) × (es : List Event) × EachWalks t m (a + size t) (at + size t) n o es)
          → (o : Option TrapKind) × (es : List Event) × EachWalks t m a at (suc n) o es
      by (Some k, es, h) more = (Some k, es, inl h)
      by (None, es, h) (o, more, v) = (o, es ++ more, each-joins t m a at n es o more h v)

-- ---- whole types

-- a record is its own node and its fields
pub record-walks : (fs : Fields) (m : List ℕ) (a at : ℕ) (o : Option TrapKind) (es : List Event) → FieldsWalk fs m a at 0 o es → Behind (Walks (record_type fs) m a at) o es
record-walks fs m a at None es (vs, held, stored) = (record_value (values_of vs), (vs, held, refl), (vs, es, refl, refl, stored))
record-walks fs m a at (Some k) es stops = (es, refl, stops)

-- a list is its own node, its block, its header and its elements
pub each-length : (t : ClosedType) (m : List ℕ) (a n : ℕ) (vs : List Value) → EachHolds (Holds t m) (size t) a n vs → length vs ≡ n
each-length t m a zero vs h = ap length h
each-length t m a (suc n) vs (v, rest, is, here, there) = ap length is ∙ ap suc (each-length t m (a + size t) n rest there)

pub list-walks : (t : ClosedType) (m : List ℕ) (a at start n : ℕ) (g : Grant) → start ≡ number_at m a w32 → n ≡ number_at m (a + 4) w32 → BlockHolds m start (align t) (n * size t) → IsBlock (align t) (n * size t) g
    → (o : Option TrapKind) (rest : List Event) → EachWalks t m start g.at n o rest → Behind (Walks (list_type t) m a at) o (grant g ∷ write at (pointer_pair g.at n) ∷ rest)
list-walks t m a at start n g is counted stands block None rest (vs, held, stored) =
    let long = each-length t m start n vs held in (
      list_value (values_of vs),
      rw (← is, ← counted) (stands, vs, held, refl),
      (vs, g, rest, refl, rw long block, rw long refl, stored),
    )
list-walks t m a at start n g is counted stands block (Some k) rest stops = rw (← is, ← counted) (inr (stands, g, rest, block, refl, stops))

-- ---- a variant

-- a case is its number and its payload
module _ (m : List ℕ) (a at i : ℕ) (own : Event) where
  pub case-held : (cs : Cases) (n : ℕ) (u : ClosedType) → nth_case cs n ≡ Some (Some u) → (w : Value) → Holds u m a w → CaseHolds cs m a i n (payload_value i w)
  case-held no_case n u e w h = absurd (cc)
  case-held (plain_case cs) zero u e w h = absurd (cc)
  case-held (plain_case cs) (suc n) u e w h = case-held cs n u e w h
  case-held (case_with t cs) zero u e w h = (w, subst (λ x. Holds x m a w) (sym (same_Some _ _ (same_Some _ _ e))) h, refl)
  case-held (case_with t cs) (suc n) u e w h = case-held cs n u e w h

  pub case-stored : (cs : Cases) (n : ℕ) (u : ClosedType) → nth_case cs n ≡ Some (Some u) → (w : Value) (es : List Event) → Stores u at w es → CaseStores cs at i n (payload_value i w) es
  case-stored no_case n u e w es h = absurd (cc)
  case-stored (plain_case cs) zero u e w es h = absurd (cc)
  case-stored (plain_case cs) (suc n) u e w es h = case-stored cs n u e w es h
  case-stored (case_with t cs) zero u e w es h = (w, refl, subst (λ x. Stores x at w es) (sym (same_Some _ _ (same_Some _ _ e))) h)
  case-stored (case_with t cs) (suc n) u e w es h = case-stored cs n u e w es h

  pub case-stops : (cs : Cases) (n : ℕ) (u : ClosedType) → nth_case cs n ≡ Some (Some u) → (k : TrapKind) (es : List Event) → StoresUntil u m a at k es → CaseStoresUntil cs m a at n own k (node ∷ own ∷ es)
  case-stops no_case n u e k es h = absurd (cc)
  case-stops (plain_case cs) zero u e k es h = absurd (cc)
  case-stops (plain_case cs) (suc n) u e k es h = case-stops cs n u e k es h
  case-stops (case_with t cs) zero u e k es h = (es, refl, subst (λ x. StoresUntil x m a at k es) (sym (same_Some _ _ (same_Some _ _ e))) h)
  case-stops (case_with t cs) (suc n) u e k es h = case-stops cs n u e k es h

  pub plain-held : (cs : Cases) (n : ℕ) → nth_case cs n ≡ Some None → CaseHolds cs m a i n (plain_value i)
  plain-held no_case n e = absurd (cc)
  plain-held (plain_case cs) zero e = refl
  plain-held (plain_case cs) (suc n) e = plain-held cs n e
  plain-held (case_with t cs) zero e = absurd (cc)
  plain-held (case_with t cs) (suc n) e = plain-held cs n e

  pub plain-stored : (cs : Cases) (n : ℕ) → nth_case cs n ≡ Some None → CaseStores cs at i n (plain_value i) []
  plain-stored no_case n e = absurd (cc)
  plain-stored (plain_case cs) zero e = (refl, refl)
  plain-stored (plain_case cs) (suc n) e = plain-stored cs n e
  plain-stored (case_with t cs) zero e = absurd (cc)
  plain-stored (case_with t cs) (suc n) e = plain-stored cs n e

  pub case-missing : (cs : Cases) (n : ℕ) → nth_case cs n ≡ None → CaseStoresUntil cs m a at n own trap.Case (node ∷ [])
  case-missing no_case n e = (refl, refl)
  case-missing (plain_case cs) zero e = absurd (cc)
  case-missing (plain_case cs) (suc n) e = case-missing cs n e
  case-missing (case_with t cs) zero e = absurd (cc)
  case-missing (case_with t cs) (suc n) e = case-missing cs n e

module _ (cs : Cases) (m : List ℕ) (a at i : ℕ) (is : i ≡ case_number cs m a) where
  abbrev pub told_case : Event
  told_case = write at (to_le_bytes (byte_width (discriminant_size (case_count cs))) i)

  pub variant-walks : (u : ClosedType) → nth_case cs i ≡ Some (Some u) → (o : Option TrapKind) (rest : List Event)
      → Walks u m (a + payload_place cs) (at + payload_place cs) o rest → Behind (Walks (variant_type cs) m a at) o (told_case ∷ rest)
  variant-walks u found None rest (w, held, stored) = (
    payload_value i w,
    rw (← is) (case-held m (a + payload_place cs) (at + payload_place cs) i told_case cs i u found w held),
    (i, rest, refl, case-stored m (a + payload_place cs) (at + payload_place cs) i told_case cs i u found w rest stored),
  )
  variant-walks u found (Some k) rest stops = rw (← is) (case-stops m (a + payload_place cs) (at + payload_place cs) i told_case cs i u found k rest stops)

  pub plain-walks : nth_case cs i ≡ Some None → Behind (Walks (variant_type cs) m a at) None (told_case ∷ [])
  plain-walks found = (
    plain_value i,
    rw (← is) (plain-held m (a + payload_place cs) (at + payload_place cs) i told_case cs i found),
    (i, [], refl, plain-stored m (a + payload_place cs) (at + payload_place cs) i told_case cs i found),
  )

  pub missing-walks : nth_case cs i ≡ None → Behind (Walks (variant_type cs) m a at) (Some trap.Case) []
  missing-walks found = rw (← is) (case-missing m (a + payload_place cs) (at + payload_place cs) i told_case cs i found)
