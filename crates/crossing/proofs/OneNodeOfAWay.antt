-- One node of a way: what was done before it, what it did, and what is left.
use Rattle.std.proofs.Common.{◌≡◌, ℕ, suc, ◌+◌, ◌-◌, ◌*◌, ◌^◌, ◌<◌, ◌≤◌, true, List, [], ◌∷◌, ◌++◌, length, Option, Some, None, Result, refl, sym, ap, subst, arith}
use Rattle.std.specs.Int.{w32, next_multiple_of}
use Rattle.std.specs.Str.{is_utf8}
use Rattle.canonical_abi.specs.Guest.{Memory, Allocation}
use Rattle.canonical_abi.specs.Types.{ClosedType, string_type, list_type, record_type, variant_type, Fields, Cases, nth_field, nth_case, field_count}
use Rattle.canonical_abi.specs.Values.{string_value}
use Rattle.canonical_abi.specs.Layout.{align, size, payload_place}
use Rattle.canonical_abi.specs.Memory.{BlockHolds, TextHolds}
use Rattle.canonical_abi.specs.Reading.{number_at, case_number}
use Rattle.canonical_abi.specs.Requests.{text_of_value}
use Rattle.canonical_abi.specs.Storing.{pointer_pair, IsBlock}
use Rattle.canonical_abi.specs.Trace.{Grant, Event, node, grant, write, EventLeads, TraceLeads, RequestFails}
use Rattle.canonical_abi.specs.Laws.{ReadsExactly}
use Rattle.canonical_abi.specs.declared.trap.TrapKind.{TrapKind}
use Rattle.values.specs.Bytes.{AreBytes}
use Rattle.lift_lower.specs.Scripts.{GrantsBlock}
use Rattle.lift_lower.specs.Scripts as low
use Rattle.values.proofs.FieldsFromAPlace.{fields_from, fields-next, fields-last}
use Rattle.crossing.specs.Outcome.{Walks, EachWalks, FieldsWalk, Behind, Counts, IsCrossed, WasRefused, HasStopped, Ends}
use Rattle.crossing.specs.declared.stopped.Stopped.{Stopped}
use Rattle.crossing.proofs.PartsOfWaysInOrder.{IsBegun, begun, begun-as, begun-then, begun-done, begun-stopped, begun-ends, begun-node, begun-write, begun-grant, part-stopped, refused}
use Rattle.crossing.proofs.ScriptsOfTypes.{field-stops, field-joins, fields-none, fields-some, each-stops, each-joins, each-none, each-some, record-walks, list-walks, told_case, variant-walks}

pub granted-led : (limit : ℕ) (allocates : Allocation) (align size at : ℕ) (old new : Memory) → low.IsDone limit allocates (GrantsBlock align size at) old new
    → (g : Grant) × IsBlock align size g × (g.at ≡ at) × EventLeads allocates old (grant g) new
granted-led limit allocates align size at old new d =
    let s = d.scripted in
    let led = subst (λ es. TraceLeads allocates old es new) s.3 d.leads in
    (s.0, s.1, s.2, subst (λ x. EventLeads allocates old (grant s.0) x) (sym led.2) led.1)

module _ (allocates : Allocation) where
  -- a value is its own node and what is behind it
  pub at-node : (S : Option TrapKind → List Event → Type 0) (old : Memory) (r : Result (Unit {0}) Stopped) (new : Memory) (n d c : ℕ) → Counts n (node ∷ []) d
      → Ends allocates (Behind S) old d r new c → Ends allocates S old n r new c
  at-node S old r new n d c counted u = begun-ends allocates S (Behind S) old old r new n d c (begun-node allocates S old n d counted) u

  pub at-record : (fs : Fields) (m : List ℕ) (a at : ℕ) (old : Memory) (r : Result (Unit {0}) Stopped) (new : Memory) (n d c : ℕ) → Counts n (node ∷ []) d
      → Ends allocates (FieldsWalk fs m a at 0) old d r new c → Ends allocates (Walks (record_type fs) m a at) old n r new c
  at-record fs m a at old r new n d c counted u =
      let S = Walks (record_type fs) m a at in
      let b = begun-as allocates S (Behind S) (FieldsWalk fs m a at 0) old old n d (record-walks fs m a at) (begun-node allocates S old n d counted) in
      begun-ends allocates S (FieldsWalk fs m a at 0) old old r new n d c b u

  -- ---- elements

  module _ (t : ClosedType) (m : List ℕ) (a at n : ℕ) where
    abbrev pub EachScript : Option TrapKind → List Event → Type 0
    EachScript = EachWalks t m a at n

    abbrev pub EachFrom : ℕ → Option TrapKind → List Event → Type 0
    EachFrom i = EachWalks t m (a + i * size t) (at + i * size t) (n - i)

    each-one : (i : ℕ) → i < n → (first : List Event) (o : Option TrapKind) (rest : List Event) → Walks t m (a + i * size t) (at + i * size t) None first → EachFrom (i + 1) o rest → EachFrom i o (first ++ rest)
    each-one i below first o rest h v =
        let e : n - i ≡ suc (n - (i + 1)) = omega (arith, below) in
        let p : a + (i + 1) * size t ≡ a + i * size t + size t = omega arith in
        let q : at + (i + 1) * size t ≡ at + i * size t + size t = omega arith in
        let w = subst (λ y. EachWalks t m (a + i * size t + size t) y (n - (i + 1)) o rest) q (subst (λ x. EachWalks t m x (at + (i + 1) * size t) (n - (i + 1)) o rest) p v) in
        subst (λ j. EachWalks t m (a + i * size t) (at + i * size t) j o (first ++ rest)) (sym e) (each-joins t m (a + i * size t) (at + i * size t) (n - (i + 1)) first o rest h w)

    each-halt : (i : ℕ) → i < n → (k : TrapKind) (first : List Event) → Walks t m (a + i * size t) (at + i * size t) (Some k) first → EachFrom i (Some k) first
    each-halt i below k first h =
        let e : n - i ≡ suc (n - (i + 1)) = omega (arith, below) in
        subst (λ j. EachWalks t m (a + i * size t) (at + i * size t) j (Some k) first) (sym e) (each-stops t m (a + i * size t) (at + i * size t) (n - (i + 1)) k first h)

    pub each-next : (i : ℕ) → i < n → (old mid new : Memory) (k c d : ℕ) → IsBegun allocates EachScript (EachFrom i) old k mid c → IsCrossed allocates (Walks t m (a + i * size t) (at + i * size t)) mid c new d
        → IsBegun allocates EachScript (EachFrom (i + 1)) old k new d
    each-next i below old mid new k c d b u =
        begun-then allocates EachScript (EachFrom i) (Walks t m (a + i * size t) (at + i * size t)) (EachFrom (i + 1)) old mid new k c d b u (each-one i below)

    pub each-stopped : AreBytes m → length m < 2 ^ 32 → ReadsExactly → (i : ℕ) → i < n → (old mid : Memory) (s : Stopped) (new : Memory) (k c d : ℕ) → IsBegun allocates EachScript (EachFrom i) old k mid c
        → HasStopped allocates (Walks t m (a + i * size t) (at + i * size t)) mid c s new d → HasStopped allocates EachScript old k s new d
    each-stopped bytes short exactly i below old mid s new k c d b u =
        begun-stopped allocates EachScript (EachFrom i) old mid s new k c d b
        (part-stopped allocates (EachFrom i) (Walks t m (a + i * size t) (at + i * size t)) (EachFrom (i + 1)) mid s new c d (each-halt i below) (each-one i below)
        (each-some m bytes short exactly t (n - (i + 1)) (a + (i + 1) * size t) (at + (i + 1) * size t)) u)

    pub each-done : (i : ℕ) → n ≤ i → (old new : Memory) (k c : ℕ) → IsBegun allocates EachScript (EachFrom i) old k new c → IsCrossed allocates EachScript old k new c
    each-done i past old new k c b =
        let e : n - i ≡ 0 = omega (arith, past) in
        begun-done allocates EachScript (EachFrom i) old new k c b (subst (λ j. EachWalks t m (a + i * size t) (at + i * size t) j None []) (sym e) (each-none t m (a + i * size t) (at + i * size t)))

  -- ---- fields

  module _ (fs : Fields) (m : List ℕ) (a at : ℕ) where
    abbrev FieldsScript : Option TrapKind → List Event → Type 0
    FieldsScript = FieldsWalk fs m a at 0

    abbrev FieldsFrom : ℕ → ℕ → Option TrapKind → List Event → Type 0
    FieldsFrom i end = FieldsWalk (fields_from i fs) m a at end

    module _ (i end : ℕ) (u : ClosedType) (found : nth_field fs i ≡ Some u) where
      abbrev place : ℕ
      place = next_multiple_of end (align u)

      field-one : (first : List Event) (o : Option TrapKind) (rest : List Event) → Walks u m (a + place) (at + place) None first → FieldsFrom (i + 1) (place + size u) o rest → FieldsFrom i end o (first ++ rest)
      field-one first o rest h v =
          subst (λ gs. FieldsWalk gs m a at end o (first ++ rest)) (sym (fields-next fs i u found)) (field-joins u (fields_from (i + 1) fs) m a at end first o rest h v)

      field-halt : (k : TrapKind) (first : List Event) → Walks u m (a + place) (at + place) (Some k) first → FieldsFrom i end (Some k) first
      field-halt k first h =
          subst (λ gs. FieldsWalk gs m a at end (Some k) first) (sym (fields-next fs i u found)) (field-stops u (fields_from (i + 1) fs) m a at end k first h)

      pub field-next : (old mid new : Memory) (k c d : ℕ) → IsBegun allocates FieldsScript (FieldsFrom i end) old k mid c → IsCrossed allocates (Walks u m (a + place) (at + place)) mid c new d
          → IsBegun allocates FieldsScript (FieldsFrom (i + 1) (place + size u)) old k new d
      field-next old mid new k c d b w =
          begun-then allocates FieldsScript (FieldsFrom i end) (Walks u m (a + place) (at + place)) (FieldsFrom (i + 1) (place + size u)) old mid new k c d b w field-one

      pub field-stopped : AreBytes m → length m < 2 ^ 32 → ReadsExactly → (old mid : Memory) (s : Stopped) (new : Memory) (k c d : ℕ) → IsBegun allocates FieldsScript (FieldsFrom i end) old k mid c
          → HasStopped allocates (Walks u m (a + place) (at + place)) mid c s new d → HasStopped allocates FieldsScript old k s new d
      field-stopped bytes short exactly old mid s new k c d b w =
          begun-stopped allocates FieldsScript (FieldsFrom i end) old mid s new k c d b
          (part-stopped allocates (FieldsFrom i end) (Walks u m (a + place) (at + place)) (FieldsFrom (i + 1) (place + size u)) mid s new c d field-halt field-one
          (fields-some m bytes short exactly (fields_from (i + 1) fs) a at (place + size u)) w)

    pub fields-done : (i end : ℕ) → field_count fs ≡ i → (old new : Memory) (k c : ℕ) → IsBegun allocates FieldsScript (FieldsFrom i end) old k new c → IsCrossed allocates FieldsScript old k new c
    fields-done i end count old new k c b =
        begun-done allocates FieldsScript (FieldsFrom i end) old new k c b (subst (λ gs. FieldsWalk gs m a at end None []) (sym (fields-last fs i count)) (fields-none m a at end))

  -- ---- a list

  module _ (t : ClosedType) (m : List ℕ) (a at start n : ℕ) (is : start ≡ number_at m a w32) (counted : n ≡ number_at m (a + 4) w32) (stands : BlockHolds m start (align t) (n * size t)) where
    abbrev ListScript : Option TrapKind → List Event → Type 0
    ListScript = Behind (Walks (list_type t) m a at)

    pub list-refused : AreBytes m → length m < 2 ^ 32 → ReadsExactly → (old : Memory) (k : TrapKind) (new : Memory) (c : ℕ) → RequestFails allocates old (align t) (n * size t) k new → WasRefused allocates ListScript old c k new c
    list-refused bytes short exactly old k new c fails =
        let g : Grant = record { align = align t; size = n * size t; at = 0; contents = [] } in
        let s = each-some m bytes short exactly t n start 0 in
        refused allocates ListScript s.0 g (write at (pointer_pair 0 n) ∷ s.1) old k new c (list-walks t m a at start n g is counted stands (refl, refl) s.0 s.1 s.2) fails

    pub list-ends : (g : Grant) → IsBlock (align t) (n * size t) g → (old mid next : Memory) (r : Result (Unit {0}) Stopped) (new : Memory) (k c : ℕ)
        → EventLeads allocates old (grant g) mid → length old.bytes ≤ length mid.bytes → EventLeads allocates mid (write at (pointer_pair g.at n)) next → length next.bytes ≡ length mid.bytes
        → Ends allocates (EachWalks t m start g.at n) next k r new c → Ends allocates ListScript old k r new c
    list-ends g block old mid next r new k c granted longer led same u =
        let b = begun-grant allocates ListScript ListScript g old old mid k k (begun allocates ListScript old k) granted longer in
        let d = begun-write allocates ListScript (λ o rest. ListScript o (grant g ∷ rest)) at (pointer_pair g.at n) old mid next k k b led same in
        let e = begun-as allocates ListScript (λ o rest. ListScript o (grant g ∷ write at (pointer_pair g.at n) ∷ rest)) (EachWalks t m start g.at n) old next k k (list-walks t m a at start n g is counted stands block) d in
        begun-ends allocates ListScript (EachWalks t m start g.at n) old next r new k k c e u

  -- ---- a text

  module _ (m : List ℕ) (a at start n : ℕ) (text : List ℕ) (is : start ≡ number_at m a w32) (counted : n ≡ number_at m (a + 4) w32) (held : TextHolds m start n (string_value text)) where
    abbrev TextScript : Option TrapKind → List Event → Type 0
    TextScript = Behind (Walks string_type m a at)

    text-walks : (g : Grant) → IsBlock 1 (length text) g → TextScript None (grant g ∷ write g.at text ∷ write at (pointer_pair g.at (length text)) ∷ [])
    text-walks g block =
        let same = ap text_of_value held.2 in
        (string_value text, rw (← is, ← counted) held, (text, g, refl, subst (λ x. is_utf8 x ≡ true) (sym same) held.1, block, refl))

    pub text-refused : (old : Memory) (k : TrapKind) (new : Memory) (c : ℕ) → RequestFails allocates old 1 (length text) k new → WasRefused allocates TextScript old c k new c
    text-refused old k new c fails =
        let g : Grant = record { align = 1; size = length text; at = 0; contents = [] } in
        refused allocates TextScript None g (write 0 text ∷ write at (pointer_pair 0 (length text)) ∷ []) old k new c (text-walks g (refl, refl)) fails

    pub text-done : (g : Grant) → IsBlock 1 (length text) g → (old mid next new : Memory) (k : ℕ) → EventLeads allocates old (grant g) mid → length old.bytes ≤ length mid.bytes
        → EventLeads allocates mid (write g.at text) next → length next.bytes ≡ length mid.bytes
        → EventLeads allocates next (write at (pointer_pair g.at (length text))) new → length new.bytes ≡ length next.bytes → IsCrossed allocates TextScript old k new k
    text-done g block old mid next new k granted longer led same told alike = record {
      events = grant g ∷ write g.at text ∷ write at (pointer_pair g.at (length text)) ∷ [];
      scripted = text-walks g block;
      leads = (mid, granted, (next, led, (new, told, refl)));
      no_shorter = omega (arith, longer, same, alike);
      counted = omega arith;
    }

  -- ---- a variant

  pub variant-ends : (cs : Cases) (m : List ℕ) (a at i : ℕ) (is : i ≡ case_number cs m a) (u : ClosedType) → nth_case cs i ≡ Some (Some u) → (old mid : Memory) (r : Result (Unit {0}) Stopped) (new : Memory) (k c : ℕ)
      → EventLeads allocates old (told_case cs m a at i is) mid → length mid.bytes ≡ length old.bytes → Ends allocates (Walks u m (a + payload_place cs) (at + payload_place cs)) mid k r new c
      → Ends allocates (Behind (Walks (variant_type cs) m a at)) old k r new c
  variant-ends cs m a at i is u found old mid r new k c led same w =
      let S = Behind (Walks (variant_type cs) m a at) in
      let U = Walks u m (a + payload_place cs) (at + payload_place cs) in
      let b = begun-write allocates S S at _ old old mid k k (begun allocates S old k) led same in
      let e = begun-as allocates S (λ o rest. S o (told_case cs m a at i is ∷ rest)) U old mid k k (variant-walks cs m a at i is u found) b in
      begun-ends allocates S U old mid r new k k c e w
