-- The scripts of flat values, by those of their parts, and how a way over them goes on.
use Rattle.std.proofs.Common.{◌≡◌, inl, inr, ℕ, zero, suc, ◌+◌, ◌*◌, ◌^◌, ◌<◌, ◌≤◌, true, List, [], ◌∷◌, ◌++◌, length, drop, Option, Some, None, Result, Ok, Err, refl, sym, ap, ◌∙◌, subst, append_assoc, append-nil, arith}
use Rattle.std.proofs.lemmas.Option.{same_Some}
use Rattle.std.specs.Prelude.{OnOk, IfErr}
use Rattle.std.specs.Str.{is_utf8}
use Rattle.canonical_abi.specs.Guest.{Memory, Allocation}
use Rattle.canonical_abi.specs.Types.{ClosedType, Prim, prim_type, string_type, list_type, record_type, variant_type, Fields, field, Cases, no_case, plain_case, case_with, nth_field, nth_case, field_count}
use Rattle.canonical_abi.specs.Values.{Value, values_of, string_value, list_value, record_value, plain_value, payload_value}
use Rattle.canonical_abi.specs.Layout.{align, size, flat_kinds, payload_kinds}
use Rattle.canonical_abi.specs.Memory.{BlockHolds, TextHolds}
use Rattle.canonical_abi.specs.Flat.{Lifts, CaseLifts}
use Rattle.canonical_abi.specs.Lowering.{joined_flats}
use Rattle.canonical_abi.specs.Reading.{low_bits, lifting_fields}
use Rattle.canonical_abi.specs.Requests.{text_of_value}
use Rattle.canonical_abi.specs.Script.{LowersUntil, CaseLowersUntil}
use Rattle.canonical_abi.specs.Storing.{IsBlock}
use Rattle.canonical_abi.specs.Trace.{Grant, Event, node, grant, write, EventLeads, RequestFails}
use Rattle.canonical_abi.specs.declared.flat.Flat.{Flat}
use Rattle.canonical_abi.specs.declared.flat.Flat.TheVariants.{I32}
use Rattle.canonical_abi.specs.declared.trap.TrapKind.{TrapKind}
use Rattle.canonical_abi.specs.declared.trap.TrapKind.TheVariants as trap
use Rattle.canonical_abi.specs.Laws.{ReadsExactly}
use Rattle.canonical_abi.proofs.ReadValues.ReadsExactly.{fields-lift}
use Rattle.values.specs.Bytes.{AreBytes}
use Rattle.lift_lower.proofs.HeldValuesAreTyped.{fields-lift-typed}
use Rattle.lift_lower.proofs.LiftingStepByStep.{drop-more}
use Rattle.lift_lower.proofs.LoweredFromParts.{plain-lowered, payload-lowered}
use Rattle.lift_lower.proofs.EachValueHasAScript.{fields-lower-script}
use Rattle.values.proofs.FieldsFromAPlace.{fields_from, fields-next, fields-last}
use Rattle.lift_lower.proofs.EventsBeforeFirstFault.{fields-lower-until}
use Rattle.crossing.specs.Outcome.{FlatScript, FlatWalks, FieldsFlatWalk, FlatBehind, FlatEnds, EachWalks, Behind, Counts, Ends, IsCrossed, MetFault, WasRefused, HasStopped}
use Rattle.crossing.specs.declared.stopped.Stopped.{Stopped}
use Rattle.crossing.specs.declared.stopped.Stopped.TheVariants as stopped
use Rattle.crossing.proofs.ScriptsOfTypes.{each-some, each-length}
use Rattle.crossing.proofs.PartsOfWaysInOrder.{IsBegun, begun, begun-as, begun-then, begun-done, begun-last, begun-stopped, begun-ends, begun-node, begun-grant, part-stopped, refused}

-- ---- scripts of parts

-- a record is its own node and its fields
pub record-flat : (ts : Fields) (m ns : List ℕ) (front final : List Flat) (o : Option TrapKind) (es : List Event) → FieldsFlatWalk ts m ns front final o es → FlatBehind (FlatWalks (record_type ts) m ns front) final o es
record-flat ts m ns front final None es (vs, made, lifted, lowered, is) = (record_value (values_of vs), made, (vs, lifted, refl), (vs, es, refl, refl, lowered), is)
record-flat ts m ns front final (Some k) es stops = (es, refl, stops)

-- a list is its own node, its block and its elements
abbrev pub header_behind : List Flat → ℕ → ℕ → List Flat
header_behind front at n = front ++ (I32 at ∷ I32 n ∷ [])

pub list-flat : (t : ClosedType) (m ns : List ℕ) (front : List Flat) (start n : ℕ) (g : Grant) → start ≡ low_bits ns 0 32 → n ≡ low_bits ns 1 32 → BlockHolds m start (align t) (n * size t) → IsBlock (align t) (n * size t) g
    → (o : Option TrapKind) (rest : List Event) → EachWalks t m start g.at n o rest → FlatBehind (FlatWalks (list_type t) m ns front) (header_behind front g.at n) o (grant g ∷ rest)
list-flat t m ns front start n g is counted stands block None rest (vs, held, stored) =
    let long = each-length t m start n vs held in (
      list_value (values_of vs),
      I32 g.at ∷ I32 (length vs) ∷ [],
      rw (← is, ← counted) (stands, vs, held, refl),
      (vs, g, rest, refl, rw long block, refl, stored, refl),
      ap (header_behind front g.at) (sym long),
    )
list-flat t m ns front start n g is counted stands block (Some k) rest stops = rw (← is, ← counted) (inr (stands, g, rest, block, refl, stops))

-- a case is its number and its payload
module _ (m ns : List ℕ) (i : ℕ) where
  case-lifted : (cs : Cases) (n : ℕ) (u : ClosedType) → nth_case cs n ≡ Some (Some u) → (w : Value) → Lifts u m ns w → CaseLifts cs m ns i n (payload_value i w)
  case-lifted no_case n u e w h = absurd (cc)
  case-lifted (plain_case cs) zero u e w h = absurd (cc)
  case-lifted (plain_case cs) (suc n) u e w h = case-lifted cs n u e w h
  case-lifted (case_with t cs) zero u e w h = (w, subst (λ x. Lifts x m ns w) (sym (same_Some _ _ (same_Some _ _ e))) h, refl)
  case-lifted (case_with t cs) (suc n) u e w h = case-lifted cs n u e w h

  plain-lifted : (cs : Cases) (n : ℕ) → nth_case cs n ≡ Some None → CaseLifts cs m ns i n (plain_value i)
  plain-lifted no_case n e = absurd (cc)
  plain-lifted (plain_case cs) zero e = refl
  plain-lifted (plain_case cs) (suc n) e = plain-lifted cs n e
  plain-lifted (case_with t cs) zero e = absurd (cc)
  plain-lifted (case_with t cs) (suc n) e = plain-lifted cs n e

  case-lower-stops : (cs : Cases) (n : ℕ) (u : ClosedType) → nth_case cs n ≡ Some (Some u) → (k : TrapKind) (es : List Event) → LowersUntil u m ns k es → CaseLowersUntil cs m ns n k es
  case-lower-stops no_case n u e k es h = absurd (cc)
  case-lower-stops (plain_case cs) zero u e k es h = absurd (cc)
  case-lower-stops (plain_case cs) (suc n) u e k es h = case-lower-stops cs n u e k es h
  case-lower-stops (case_with t cs) zero u e k es h = subst (λ x. LowersUntil x m ns k es) (sym (same_Some _ _ (same_Some _ _ e))) h
  case-lower-stops (case_with t cs) (suc n) u e k es h = case-lower-stops cs n u e k es h

  case-lower-missing : (cs : Cases) (n : ℕ) → nth_case cs n ≡ None → CaseLowersUntil cs m ns n trap.Case []
  case-lower-missing no_case n e = (refl, refl)
  case-lower-missing (plain_case cs) zero e = absurd (cc)
  case-lower-missing (plain_case cs) (suc n) e = case-lower-missing cs n e
  case-lower-missing (case_with t cs) zero e = absurd (cc)
  case-lower-missing (case_with t cs) (suc n) e = case-lower-missing cs n e

module _ (cs : Cases) (m ns : List ℕ) (front : List Flat) (i : ℕ) (is : i ≡ low_bits ns 0 32) where
  abbrev pub case_behind : List Flat → List Flat
  case_behind payload = front ++ (I32 i ∷ joined_flats (payload_kinds cs) payload)

  abbrev pub CaseScript : FlatScript
  CaseScript = FlatBehind (FlatWalks (variant_type cs) m ns front)

  payload-flat : (u : ClosedType) → nth_case cs i ≡ Some (Some u) → (payload : List Flat) (o : Option TrapKind) (rest : List Event) → FlatWalks u m (drop 1 ns) [] payload o rest → CaseScript (case_behind payload) o rest
  payload-flat u found payload None rest (w, made, lifted, lowered, same) = (
    payload_value i w,
    I32 i ∷ joined_flats (payload_kinds cs) made,
    rw (← is) (case-lifted m (drop 1 ns) i cs i u found w lifted),
    (i, rest, made, refl, payload-lowered cs i i u w rest made found lowered, refl),
    ap case_behind same,
  )
  payload-flat u found payload (Some k) rest stops = (rest, refl, rw (← is) (case-lower-stops m (drop 1 ns) i cs i u found k rest stops))

  plain-flat : nth_case cs i ≡ Some None → CaseScript (case_behind []) None []
  plain-flat found = (
    plain_value i,
    I32 i ∷ joined_flats (payload_kinds cs) [],
    rw (← is) (plain-lifted m (drop 1 ns) i cs i found),
    (i, [], [], refl, plain-lowered cs i i found, refl),
    refl,
  )

  missing-flat : nth_case cs i ≡ None → (final : List Flat) → CaseScript final (Some trap.Case) []
  missing-flat found final = ([], refl, rw (← is) (case-lower-missing m (drop 1 ns) i cs i found))

-- ---- a script always is

fields-flat-some : (m : List ℕ) → AreBytes m → length m < 2 ^ 32 → (ts : Fields) (ns : List ℕ) (front : List Flat) → (final : List Flat) × (o : Option TrapKind) × (es : List Event) × FieldsFlatWalk ts m ns front final o es
fields-flat-some m bytes short ts ns front = by (lifting_fields ts m ns) refl
  where
    by : (r : Result (List Value) TrapKind) → lifting_fields ts m ns ≡ r → (final : List Flat) × (o : Option TrapKind) × (es : List Event) × FieldsFlatWalk ts m ns front final o es
    by (Ok vs) e =
        let lifted = (fields-lift ts m ns).ok vs e in
        let s = fields-lower-script ts vs (fields-lift-typed m bytes short ts ns vs lifted) in
        (front ++ s.1, None, s.0, (vs, s.1, lifted, s.2, refl))
    by (Err k) e = let u = fields-lower-until m bytes short ts ns k ((fields-lift ts m ns).err k e) in ([], Some k, u.0, u.1)

module _ (allocates : Allocation) where
  -- ---- ends

  pub ends-with : (S : FlatScript) (old : Memory) (n : ℕ) (r : Result (Unit {0}) Stopped) (new : Memory) (c : ℕ) (final : List Flat) → Ends allocates (S final) old n r new c → FlatEnds allocates S old n r new c final
  ends-with S old n (Ok x) new c final u = u
  ends-with S old n (Err s) new c final u = (final, u)

  pub flat-ends : (S T : FlatScript) (old mid : Memory) (r : Result (Unit {0}) Stopped) (new : Memory) (n c d : ℕ) (final : List Flat) → ((f : List Flat) → IsBegun allocates (S f) (T f) old n mid c)
      → FlatEnds allocates T mid c r new d final → FlatEnds allocates S old n r new d final
  flat-ends S T old mid (Ok x) new n c d final b u = begun-last allocates (S final) (T final) old mid new n c d (b final) u
  flat-ends S T old mid (Err s) new n c d final b u = (u.0, begun-stopped allocates (S u.0) (T u.0) old mid s new n c d (b u.0) u.1)

  -- a value is its own node and what is behind it
  pub flat-node : (S : FlatScript) (old : Memory) (r : Result (Unit {0}) Stopped) (new : Memory) (n d c : ℕ) (final : List Flat) → Counts n (node ∷ []) d
      → FlatEnds allocates (FlatBehind S) old d r new c final → FlatEnds allocates S old n r new c final
  flat-node S old r new n d c final counted u = flat-ends S (FlatBehind S) old old r new n d c final (λ f. begun-node allocates (S f) old n d counted) u

  pub flat-record : (ts : Fields) (m ns : List ℕ) (front : List Flat) (old : Memory) (r : Result (Unit {0}) Stopped) (new : Memory) (n d c : ℕ) (final : List Flat) → Counts n (node ∷ []) d
      → FlatEnds allocates (FieldsFlatWalk ts m ns front) old d r new c final → FlatEnds allocates (FlatWalks (record_type ts) m ns front) old n r new c final
  flat-record ts m ns front old r new n d c final counted u =
      let S = FlatWalks (record_type ts) m ns front in
      let T = FieldsFlatWalk ts m ns front in
      flat-ends S T old old r new n d c final (λ f. begun-as allocates (S f) (Behind (S f)) (T f) old old n d (record-flat ts m ns front f) (begun-node allocates (S f) old n d counted)) u

  -- a node without parts
  pub leaf-done : (S : FlatScript) (m : Memory) (n d : ℕ) (final : List Flat) → Counts n (node ∷ []) d → S final None (node ∷ []) → IsCrossed allocates (S final) m n m d
  leaf-done S m n d final counted s = begun-done allocates (S final) (Behind (S final)) m m n d (begun-node allocates (S final) m n d counted) s

  pub leaf-fault : (S : FlatScript) (m : Memory) (n d : ℕ) (final : List Flat) (k : TrapKind) → Counts n (node ∷ []) d → S final (Some k) (node ∷ []) → MetFault allocates (S final) m n k m d
  leaf-fault S m n d final k counted s = record { events = node ∷ []; scripted = s; leads = (m, refl, refl); counted = omega (arith, counted) }

  pub primitive-ends : (p : Prim) (m ns : List ℕ) (front : List Flat) (old : Memory) (r : Result (Unit {0}) Stopped) (n d : ℕ) (final : List Flat) → Counts n (node ∷ []) d
      → OnOk r ((m : List ℕ) → FlatWalks (prim_type p) m ns front final None (node ∷ []))
      → IfErr r (λ s. (k : TrapKind) × (s ≡ stopped.Source k) × ((m : List ℕ) → FlatWalks (prim_type p) m ns front [] (Some k) (node ∷ [])))
      → FlatEnds allocates (FlatWalks (prim_type p) m ns front) old n r old d final
  primitive-ends p m ns front old (Ok x) n d final counted ok bad = leaf-done (FlatWalks (prim_type p) m ns front) old n d final counted (ok m)
  primitive-ends p m ns front old (Err s) n d final counted ok (k, is, stops) =
      ([], subst (λ x. HasStopped allocates (FlatWalks (prim_type p) m ns front []) old n x old d) (sym is) (leaf-fault (FlatWalks (prim_type p) m ns front) old n d [] k counted (stops m)))

  -- ---- fields

  module _ (ts : Fields) (m ns : List ℕ) (front : List Flat) where
    abbrev FieldsFrom : ℕ → ℕ → List Flat → FlatScript
    FieldsFrom i used now = FieldsFlatWalk (fields_from i ts) m (drop used ns) now

    -- the fields before place i were carried on, in so many flat values, and these core values stand
    abbrev pub AreCarrying : ℕ → ℕ → List Flat → Memory → ℕ → Memory → ℕ → Type 0
    AreCarrying i used now old n mid c = (final : List Flat) → IsBegun allocates (FieldsFlatWalk ts m ns front final) (FieldsFrom i used now final) old n mid c

    pub carrying-begun : (old : Memory) (n : ℕ) → AreCarrying 0 0 front old n old n
    carrying-begun old n final = begun allocates (FieldsFlatWalk ts m ns front final) old n

    module _ (i used : ℕ) (u : ClosedType) (found : nth_field ts i ≡ Some u) (now : List Flat) where
      field-flat : (more final : List Flat) (first : List Event) (o : Option TrapKind) (rest : List Event) → FlatWalks u m (drop used ns) now more None first
          → FieldsFrom (i + 1) (used + length (flat_kinds u)) more final o rest → FieldsFrom i used now final o (first ++ rest)
      field-flat more final first o rest h v = subst (λ us. FieldsFlatWalk us m (drop used ns) now final o (first ++ rest)) (sym (fields-next ts i u found)) (by o h (subst (λ ks. FieldsFlatWalk (fields_from (i + 1) ts) m ks more final o rest) (sym (drop-more used (length (flat_kinds u)) ns)) v))
        where
          by : (p : Option TrapKind) → FlatWalks u m (drop used ns) now more None first → FieldsFlatWalk (fields_from (i + 1) ts) m (drop (length (flat_kinds u)) (drop used ns)) more final p rest
              → FieldsFlatWalk (field u (fields_from (i + 1) ts)) m (drop used ns) now final p (first ++ rest)
          by None (v, made, lifted, lowered, is) (vs, mades, lifts, lowers, ends) = (
            v ∷ vs,
            made ++ mades,
            (v, vs, refl, lifted, lifts),
            (v, vs, first, rest, made, mades, refl, refl, refl, lowered, lowers),
            ends ∙ ap (λ l. l ++ mades) is ∙ append_assoc now made mades,
          )
          by (Some k) (v, made, lifted, lowered, is) stops = inr (v, first, rest, refl, lifted, (made, lowered), stops)

      field-flat-halt : (other final : List Flat) (k : TrapKind) (first : List Event) → FlatWalks u m (drop used ns) now other (Some k) first → FieldsFrom i used now final (Some k) first
      field-flat-halt other final k first h = subst (λ us. FieldsFlatWalk us m (drop used ns) now final (Some k) first) (sym (fields-next ts i u found)) (inl h)

      pub carrying-next : (more : List Flat) (old mid new : Memory) (n c d : ℕ) → AreCarrying i used now old n mid c → IsCrossed allocates (FlatWalks u m (drop used ns) now more) mid c new d
          → AreCarrying (i + 1) (used + length (flat_kinds u)) more old n new d
      carrying-next more old mid new n c d b w final =
          begun-then allocates (FieldsFlatWalk ts m ns front final) (FieldsFrom i used now final) (FlatWalks u m (drop used ns) now more) (FieldsFrom (i + 1) (used + length (flat_kinds u)) more final) old mid new n c d (b final) w
          (field-flat more final)

      pub carrying-stopped : AreBytes m → length m < 2 ^ 32 → (old mid : Memory) (s : Stopped) (new : Memory) (n c d : ℕ) → AreCarrying i used now old n mid c
          → ((other : List Flat) × HasStopped allocates (FlatWalks u m (drop used ns) now other) mid c s new d) → (final : List Flat) × HasStopped allocates (FieldsFlatWalk ts m ns front final) old n s new d
      carrying-stopped bytes short old mid s new n c d b (other, w) =
          let rest = fields-flat-some m bytes short (fields_from (i + 1) ts) (drop (used + length (flat_kinds u)) ns) other in
          let final = rest.0 in (
            final,
            begun-stopped allocates (FieldsFlatWalk ts m ns front final) (FieldsFrom i used now final) old mid s new n c d (b final)
                (part-stopped allocates (FieldsFrom i used now final) (FlatWalks u m (drop used ns) now other) (FieldsFrom (i + 1) (used + length (flat_kinds u)) other final) mid s new c d
                (field-flat-halt other final) (field-flat other final) (rest.1, rest.2, rest.3) w),
          )

    pub carrying-done : (i used : ℕ) (now : List Flat) → field_count ts ≡ i → (old new : Memory) (n c : ℕ) → AreCarrying i used now old n new c → IsCrossed allocates (FieldsFlatWalk ts m ns front now) old n new c
    carrying-done i used now count old new n c b =
        begun-done allocates (FieldsFlatWalk ts m ns front now) (FieldsFrom i used now now) old new n c (b now)
        (subst (λ us. FieldsFlatWalk us m (drop used ns) now now None []) (sym (fields-last ts i count)) ([], [], refl, (refl, refl, refl), sym (append-nil now)))

  -- ---- a list

  module _ (t : ClosedType) (m ns : List ℕ) (front : List Flat) (start n : ℕ) (is : start ≡ low_bits ns 0 32) (counted : n ≡ low_bits ns 1 32) (stands : BlockHolds m start (align t) (n * size t)) where
    abbrev pub ListFlat : FlatScript
    ListFlat = FlatBehind (FlatWalks (list_type t) m ns front)

    pub list-flat-refused : AreBytes m → length m < 2 ^ 32 → ReadsExactly → (old : Memory) (k : TrapKind) (new : Memory) (c : ℕ) → RequestFails allocates old (align t) (n * size t) k new
        → (final : List Flat) × WasRefused allocates (ListFlat final) old c k new c
    list-flat-refused bytes short exactly old k new c fails =
        let g : Grant = record { align = align t; size = n * size t; at = 0; contents = [] } in
        let s = each-some m bytes short exactly t n start 0 in
        (header_behind front 0 n, refused allocates (ListFlat (header_behind front 0 n)) s.0 g s.1 old k new c (list-flat t m ns front start n g is counted stands (refl, refl) s.0 s.1 s.2) fails)

    pub list-flat-ends : (g : Grant) → IsBlock (align t) (n * size t) g → (old mid : Memory) (r : Result (Unit {0}) Stopped) (new : Memory) (k c : ℕ) → EventLeads allocates old (grant g) mid → length old.bytes ≤ length mid.bytes
        → Ends allocates (EachWalks t m start g.at n) mid k r new c → Ends allocates (ListFlat (header_behind front g.at n)) old k r new c
    list-flat-ends g block old mid r new k c granted longer u =
        let S = ListFlat (header_behind front g.at n) in
        let b = begun-grant allocates S S g old old mid k k (begun allocates S old k) granted longer in
        let e = begun-as allocates S (λ o rest. S o (grant g ∷ rest)) (EachWalks t m start g.at n) old mid k k (list-flat t m ns front start n g is counted stands block) b in
        begun-ends allocates S (EachWalks t m start g.at n) old mid r new k k c e u

  -- ---- a text

  module _ (m ns : List ℕ) (front : List Flat) (start n : ℕ) (text : List ℕ) (is : start ≡ low_bits ns 0 32) (counted : n ≡ low_bits ns 1 32) (held : TextHolds m start n (string_value text)) where
    abbrev pub TextFlat : FlatScript
    TextFlat = FlatBehind (FlatWalks string_type m ns front)

    text-flat : (g : Grant) → IsBlock 1 (length text) g → TextFlat (header_behind front g.at (length text)) None (grant g ∷ write g.at text ∷ [])
    text-flat g block =
        let same = ap text_of_value held.2 in
        (string_value text, I32 g.at ∷ I32 (length text) ∷ [], rw (← is, ← counted) held, (text, g, refl, subst (λ x. is_utf8 x ≡ true) (sym same) held.1, block, refl, refl), refl)

    pub text-flat-refused : (old : Memory) (k : TrapKind) (new : Memory) (c : ℕ) → RequestFails allocates old 1 (length text) k new → (final : List Flat) × WasRefused allocates (TextFlat final) old c k new c
    text-flat-refused old k new c fails =
        let g : Grant = record { align = 1; size = length text; at = 0; contents = [] } in
        (header_behind front 0 (length text), refused allocates (TextFlat (header_behind front 0 (length text))) None g (write 0 text ∷ []) old k new c (text-flat g (refl, refl)) fails)

    pub text-flat-done : (g : Grant) → IsBlock 1 (length text) g → (old mid new : Memory) (k : ℕ) → EventLeads allocates old (grant g) mid → length old.bytes ≤ length mid.bytes
        → EventLeads allocates mid (write g.at text) new → length new.bytes ≡ length mid.bytes → IsCrossed allocates (TextFlat (header_behind front g.at (length text))) old k new k
    text-flat-done g block old mid new k granted longer led same = record {
      events = grant g ∷ write g.at text ∷ [];
      scripted = text-flat g block;
      leads = (mid, granted, (new, led, refl));
      no_shorter = omega (arith, longer, same);
      counted = omega arith;
    }

  -- ---- a variant

  module _ (cs : Cases) (m ns : List ℕ) (front : List Flat) (i : ℕ) (is : i ≡ low_bits ns 0 32) where
    pub missing-fault : nth_case cs i ≡ None → (old : Memory) (n : ℕ) → (final : List Flat) × MetFault allocates (CaseScript cs m ns front i is final) old n trap.Case old n
    missing-fault found old n = ([], record { events = []; scripted = missing-flat cs m ns front i is found []; leads = refl; counted = omega arith })

    pub plain-done : nth_case cs i ≡ Some None → (final : List Flat) → final ≡ case_behind cs m ns front i is [] → (old : Memory) (n : ℕ) → IsCrossed allocates (CaseScript cs m ns front i is final) old n old n
    plain-done found final ends old n =
        let S = CaseScript cs m ns front i is final in
        begun-done allocates S S old old n n (begun allocates S old n) (subst (λ f. CaseScript cs m ns front i is f None []) (sym ends) (plain-flat cs m ns front i is found))

    module _ (u : ClosedType) (found : nth_case cs i ≡ Some (Some u)) where
      pub payload-done : (payload final : List Flat) → final ≡ case_behind cs m ns front i is payload → (old new : Memory) (n c : ℕ) → IsCrossed allocates (FlatWalks u m (drop 1 ns) [] payload) old n new c
          → IsCrossed allocates (CaseScript cs m ns front i is final) old n new c
      payload-done payload final ends old new n c w =
          let S = CaseScript cs m ns front i is (case_behind cs m ns front i is payload) in
          let T = FlatWalks u m (drop 1 ns) [] payload in
          subst (λ f. IsCrossed allocates (CaseScript cs m ns front i is f) old n new c) (sym ends)
          (begun-last allocates S T old old new n n c (begun-as allocates S S T old old n n (payload-flat cs m ns front i is u found payload) (begun allocates S old n)) w)

      pub payload-stopped : (old : Memory) (s : Stopped) (new : Memory) (n c : ℕ) → ((other : List Flat) × HasStopped allocates (FlatWalks u m (drop 1 ns) [] other) old n s new c)
          → (final : List Flat) × HasStopped allocates (CaseScript cs m ns front i is final) old n s new c
      payload-stopped old s new n c (other, w) =
          let S = CaseScript cs m ns front i is (case_behind cs m ns front i is other) in
          let T = FlatWalks u m (drop 1 ns) [] other in
          (case_behind cs m ns front i is other, begun-stopped allocates S T old old s new n n c (begun-as allocates S S T old old n n (payload-flat cs m ns front i is u found other) (begun allocates S old n)) w)
