-- The scripts of a whole way, by those of its values.
use Rattle.std.proofs.Common.{◌≡◌, inl, inr, ℕ, ◌^◌, ◌<◌, ◌≤◌, true, false, List, [], ◌∷◌, length, map, Option, Some, None, Result, Ok, Err, refl, sym, subst}
use Rattle.canonical_abi.specs.Guest.{Memory, Allocation}
use Rattle.canonical_abi.specs.Types.{Fields, record_type}
use Rattle.canonical_abi.specs.Layout.{align, size, fits_flat, passed_kinds}
use Rattle.canonical_abi.specs.Memory.{BlockHolds, FieldsHold}
use Rattle.canonical_abi.specs.Lowering.{FieldsLower}
use Rattle.canonical_abi.specs.Reading.{low_bits, kind_of, number_of}
use Rattle.canonical_abi.specs.Script.{FieldsStoreUntil}
use Rattle.canonical_abi.specs.Storing.{IsBlock}
use Rattle.canonical_abi.specs.Trace.{Grant, Event, grant, EventLeads, RequestFails}
use Rattle.canonical_abi.specs.Laws.{ReadsExactly}
use Rattle.canonical_abi.specs.declared.flat.Flat.{Flat}
use Rattle.canonical_abi.specs.declared.flat.Flat.TheVariants.{I32}
use Rattle.canonical_abi.specs.declared.trap.TrapKind.{TrapKind}
use Rattle.values.specs.Bytes.{AreBytes}
use Rattle.crossing.specs.Outcome.{FlatScript, FieldsFlatWalk, FieldsWalk, FlatEnds, Ends, IsCrossed, WasRefused, HasStopped}
use Rattle.crossing.specs.Ways.{ParamsWalk, ResultWalk, WayEnds}
use Rattle.crossing.specs.declared.stopped.Stopped.{Stopped}
use Rattle.crossing.specs.declared.stopped.Stopped.TheVariants as stopped
use Rattle.crossing.proofs.ScriptsOfTypes.{fields-some}
use Rattle.crossing.proofs.PartsOfWaysInOrder.{IsBegun, begun, begun-as, begun-last, begun-stopped, begun-grant, refused}

module _ (limit : ℕ) (ts : Fields) (m : List ℕ) (flats : List Flat) (kinds : map kind_of flats ≡ passed_kinds limit ts) where
  abbrev pub address : ℕ
  address = low_bits (map number_of flats) 0 32

  -- parameters that go flat are the fields of their record
  pub flat-params : fits_flat limit ts ≡ true → (final : List Flat) (o : Option TrapKind) (es : List Event) → FieldsFlatWalk ts m (map number_of flats) [] final o es → ParamsWalk limit ts m flats final o es
  flat-params fits final None es (vs, made, lifted, lowered, is) = (vs, (kinds, inl (fits, lifted)), inl (fits, subst (λ f. FieldsLower ts vs es f) (sym is) lowered))
  flat-params fits final (Some k) es stops = ((kinds, inl fits), inl (fits, stops))

  -- others are a record at an address, which has a block of its own
  pub spilled-params : fits_flat limit ts ≡ false → BlockHolds m address (align (record_type ts)) (size (record_type ts)) → (g : Grant) → IsBlock (align (record_type ts)) (size (record_type ts)) g
      → (o : Option TrapKind) (rest : List Event) → FieldsWalk ts m address g.at 0 o rest → ParamsWalk limit ts m flats (I32 g.at ∷ []) o (grant g ∷ rest)
  spilled-params spilled stands g block None rest (vs, held, stored) = (vs, (kinds, inr (spilled, (stands, held))), inr (spilled, (g, rest, block, refl, stored, refl)))
  spilled-params spilled stands g block (Some k) rest stops = ((kinds, inr (spilled, stands)), inr (spilled, g, rest, block, refl, stops))

module _ (limit : ℕ) (ts : Fields) (m : List ℕ) (flats : List Flat) (area : ℕ) (target : List ℕ) (kinds : map kind_of flats ≡ passed_kinds limit ts) where
  -- a result that goes flat is the one field
  pub flat-result : fits_flat limit ts ≡ true → (final : List Flat) (o : Option TrapKind) (es : List Event) → FieldsFlatWalk ts m (map number_of flats) [] final o es → ResultWalk limit ts m flats area target final o es
  flat-result fits final None es (vs, made, lifted, lowered, is) = (inl fits, vs, (kinds, inl (fits, lifted)), inl (fits, subst (λ f. FieldsLower ts vs es f) (sym is) lowered))
  flat-result fits final (Some k) es stops = (inl fits, ((kinds, inl fits), inl (fits, stops)))

  -- another is a record at an address, and is put into the return area
  pub spilled-result : fits_flat limit ts ≡ false → BlockHolds target area (align (record_type ts)) (size (record_type ts)) → (a : ℕ) → a ≡ low_bits (map number_of flats) 0 32
      → BlockHolds m a (align (record_type ts)) (size (record_type ts)) → (o : Option TrapKind) (es : List Event) → FieldsWalk ts m a area 0 o es → ResultWalk limit ts m flats area target [] o es
  spilled-result spilled room a is stands None es (vs, held, stored) =
      let here = subst (λ x. BlockHolds m x (align (record_type ts)) (size (record_type ts))) is stands in
      (inr (spilled, room), vs, (kinds, inr (spilled, (here, subst (λ x. FieldsHold ts m x 0 vs) is held))), inr (spilled, stored, refl))
  spilled-result spilled room a is stands (Some k) es stops =
      let here = subst (λ x. BlockHolds m x (align (record_type ts)) (size (record_type ts))) is stands in
      (inr (spilled, room), ((kinds, inr (spilled, here)), inr (spilled, subst (λ x. FieldsStoreUntil ts m x area 0 k es) is stops)))

module _ (allocates : Allocation) where
  -- ---- ends

  pub way-stopped : (S : FlatScript) (F G : TrapKind → Type 0) (old : Memory) (n : ℕ) (s : Stopped) (new : Memory) (c : ℕ) (final other : List Flat) → HasStopped allocates (S other) old n s new c
      → WayEnds allocates S F G old n (Err s) new c final
  way-stopped S F G old n (stopped.Source k) new c final other u = inr (other, u)
  way-stopped S F G old n (stopped.Target k) new c final other u = inr (other, u)

  pub stopped-as : (S T : Option TrapKind → List Event → Type 0) → ((o : Option TrapKind) (es : List Event) → T o es → S o es) → (old : Memory) (n : ℕ) (s : Stopped) (new : Memory) (c : ℕ)
      → HasStopped allocates T old n s new c → HasStopped allocates S old n s new c
  stopped-as S T same old n s new c u = begun-stopped allocates S T old old s new n n c (begun-as allocates S S T old old n n same (begun allocates S old n)) u

  pub done-as : (S T : Option TrapKind → List Event → Type 0) → ((o : Option TrapKind) (es : List Event) → T o es → S o es) → (old : Memory) (n : ℕ) (new : Memory) (c : ℕ)
      → IsCrossed allocates T old n new c → IsCrossed allocates S old n new c
  done-as S T same old n new c u = begun-last allocates S T old old new n n c (begun-as allocates S S T old old n n same (begun allocates S old n)) u

  module _ (limit : ℕ) (ts : Fields) (m : List ℕ) (flats : List Flat) (kinds : map kind_of flats ≡ passed_kinds limit ts) where
    -- ---- flat parameters

    pub flat-ends : fits_flat limit ts ≡ true → (F G : TrapKind → Type 0) (old : Memory) (n : ℕ) (r : Result (Unit {0}) Stopped) (new : Memory) (c : ℕ) (final : List Flat)
        → FlatEnds allocates (FieldsFlatWalk ts m (map number_of flats) []) old n r new c final → WayEnds allocates (ParamsWalk limit ts m flats) F G old n r new c final
    flat-ends fits F G old n (Ok _) new c final u = done-as (ParamsWalk limit ts m flats final) (FieldsFlatWalk ts m (map number_of flats) [] final) (flat-params limit ts m flats kinds fits final) old n new c u
    flat-ends fits F G old n (Err s) new c final (other, u) =
        way-stopped (ParamsWalk limit ts m flats) F G old n s new c final other (stopped-as (ParamsWalk limit ts m flats other) (FieldsFlatWalk ts m (map number_of flats) [] other) (flat-params limit ts m flats kinds fits other) old n s new c u)

    -- ---- a record of parameters

    module _ (spilled : fits_flat limit ts ≡ false) (a : ℕ) (is : a ≡ low_bits (map number_of flats) 0 32) (stands : BlockHolds m a (align (record_type ts)) (size (record_type ts))) where
      abbrev RecordScript : ℕ → Option TrapKind → List Event → Type 0
      RecordScript at = ParamsWalk limit ts m flats (I32 at ∷ [])

      record-script : (g : Grant) → IsBlock (align (record_type ts)) (size (record_type ts)) g → (o : Option TrapKind) (rest : List Event) → FieldsWalk ts m a g.at 0 o rest → RecordScript g.at o (grant g ∷ rest)
      record-script g block o rest h =
          spilled-params limit ts m flats kinds spilled (subst (λ x. BlockHolds m x (align (record_type ts)) (size (record_type ts))) is stands) g block o rest (subst (λ x. FieldsWalk ts m x g.at 0 o rest) is h)

      pub record-refused : AreBytes m → length m < 2 ^ 32 → ReadsExactly → (old : Memory) (n : ℕ) (k : TrapKind) (new : Memory) → RequestFails allocates old (align (record_type ts)) (size (record_type ts)) k new
          → (final : List Flat) × WasRefused allocates (ParamsWalk limit ts m flats final) old n k new n
      record-refused bytes short exactly old n k new fails =
          let g : Grant = record { align = align (record_type ts); size = size (record_type ts); at = 0; contents = [] } in
          let s = fields-some m bytes short exactly ts a 0 0 in
          (I32 0 ∷ [], refused allocates (RecordScript 0) s.0 g s.1 old k new n (record-script g (refl, refl) s.0 s.1 s.2) fails)

      record-begun : (g : Grant) → IsBlock (align (record_type ts)) (size (record_type ts)) g → (old mid : Memory) (n : ℕ) → EventLeads allocates old (grant g) mid → length old.bytes ≤ length mid.bytes
          → IsBegun allocates (RecordScript g.at) (FieldsWalk ts m a g.at 0) old n mid n
      record-begun g block old mid n granted longer =
          let S = RecordScript g.at in
          begun-as allocates S (λ o rest. S o (grant g ∷ rest)) (FieldsWalk ts m a g.at 0) old mid n n (record-script g block) (begun-grant allocates S S g old old mid n n (begun allocates S old n) granted longer)

      pub record-done : (g : Grant) → IsBlock (align (record_type ts)) (size (record_type ts)) g → (final : List Flat) → final ≡ I32 g.at ∷ [] → (old mid : Memory) (n : ℕ) (new : Memory) (c : ℕ) → EventLeads allocates old (grant g) mid
          → length old.bytes ≤ length mid.bytes → IsCrossed allocates (FieldsWalk ts m a g.at 0) mid n new c → IsCrossed allocates (ParamsWalk limit ts m flats final) old n new c
      record-done g block final ends old mid n new c granted longer u =
          subst (λ f. IsCrossed allocates (ParamsWalk limit ts m flats f) old n new c) (sym ends)
          (begun-last allocates (RecordScript g.at) (FieldsWalk ts m a g.at 0) old mid new n n c (record-begun g block old mid n granted longer) u)

      pub record-stopped : (g : Grant) → IsBlock (align (record_type ts)) (size (record_type ts)) g → (F G : TrapKind → Type 0) (old mid : Memory) (n : ℕ) (s : Stopped) (new : Memory) (c : ℕ) → EventLeads allocates old (grant g) mid
          → length old.bytes ≤ length mid.bytes → HasStopped allocates (FieldsWalk ts m a g.at 0) mid n s new c → (final : List Flat) → WayEnds allocates (ParamsWalk limit ts m flats) F G old n (Err s) new c final
      record-stopped g block F G old mid n s new c granted longer u final =
          way-stopped (ParamsWalk limit ts m flats) F G old n s new c final (I32 g.at ∷ [])
          (begun-stopped allocates (RecordScript g.at) (FieldsWalk ts m a g.at 0) old mid s new n n c (record-begun g block old mid n granted longer) u)

  module _ (limit : ℕ) (ts : Fields) (m : List ℕ) (flats : List Flat) (area : ℕ) (kinds : map kind_of flats ≡ passed_kinds limit ts) (F G : TrapKind → Type 0) (old : Memory) (n : ℕ) where
    -- ---- a result that goes flat

    pub result-ends : fits_flat limit ts ≡ true → (r : Result (Unit {0}) Stopped) (new : Memory) (c : ℕ) (final : List Flat) → FlatEnds allocates (FieldsFlatWalk ts m (map number_of flats) []) old n r new c final
        → WayEnds allocates (ResultWalk limit ts m flats area old.bytes) F G old n r new c final
    result-ends fits (Ok _) new c final u = done-as (ResultWalk limit ts m flats area old.bytes final) (FieldsFlatWalk ts m (map number_of flats) [] final) (flat-result limit ts m flats area old.bytes kinds fits final) old n new c u
    result-ends fits (Err s) new c final (other, u) =
        way-stopped (ResultWalk limit ts m flats area old.bytes) F G old n s new c final other
        (stopped-as (ResultWalk limit ts m flats area old.bytes other) (FieldsFlatWalk ts m (map number_of flats) [] other) (flat-result limit ts m flats area old.bytes kinds fits other) old n s new c u)

    -- ---- one that is put into the return area

    pub area-ends : fits_flat limit ts ≡ false → BlockHolds old.bytes area (align (record_type ts)) (size (record_type ts)) → (a : ℕ) → a ≡ low_bits (map number_of flats) 0 32
        → BlockHolds m a (align (record_type ts)) (size (record_type ts)) → (r : Result (Unit {0}) Stopped) (new : Memory) (c : ℕ) → Ends allocates (FieldsWalk ts m a area 0) old n r new c
        → (final : List Flat) → final ≡ [] → WayEnds allocates (ResultWalk limit ts m flats area old.bytes) F G old n r new c final
    area-ends spilled room a is stands (Ok _) new c u final none =
        subst (λ f. IsCrossed allocates (ResultWalk limit ts m flats area old.bytes f) old n new c) (sym none)
        (done-as (ResultWalk limit ts m flats area old.bytes []) (FieldsWalk ts m a area 0) (spilled-result limit ts m flats area old.bytes kinds spilled room a is stands) old n new c u)
    area-ends spilled room a is stands (Err s) new c u final none =
        way-stopped (ResultWalk limit ts m flats area old.bytes) F G old n s new c final []
        (stopped-as (ResultWalk limit ts m flats area old.bytes []) (FieldsWalk ts m a area 0) (spilled-result limit ts m flats area old.bytes kinds spilled room a is stands) old n s new c u)
