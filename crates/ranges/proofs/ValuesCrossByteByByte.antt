-- Values of types that cross byte by byte: what stands in one memory is stored in another, and its bytes come over those that were there.
use Rattle.std.proofs.Common.{◌≡◌, inl, inr, ℕ, zero, suc, ◌+◌, ◌*◌, ◌%◌, ◌^◌, ◌<◌, ◌≤◌, Bool, true, false, nat_le, max, fold, List, [], ◌∷◌, ◌++◌, length, refl, ap, ◌∙◌, arith}
use Rattle.std.specs.Int.{byte_len, next_multiple_of, to_le_bytes}
use Rattle.std.proofs.Math.Nat.{mod-eq_of_lt, mod-lt}
use Rattle.std.proofs.Math.Pow.{pow_pos}
use Rattle.canonical_abi.specs.Types.{IntWidth, int8, int16, int32, width_of, bits, ClosedType, prim_type, string_type, list_type, record_type, variant_type, flags_type, Fields, no_field, field, Cases, no_case, plain_case, case_with, case_count}
use Rattle.canonical_abi.specs.Values.{Value, values_of, plain_value, payload_value, flags_value, record_value}
use Rattle.canonical_abi.specs.Layout.{align, size, flags_size, discriminant_size, end_from, field_extents, payload_place, payload_extents}
use Rattle.canonical_abi.specs.Reading.{number_at, byte_width, case_number}
use Rattle.canonical_abi.specs.Memory.{Holds, FieldsHold, CaseHolds, EachHolds}
use Rattle.canonical_abi.specs.Guest.{overwrite}
use Rattle.canonical_abi.specs.Trace.{Event, node, write, nodes_of}
use Rattle.canonical_abi.specs.Storing.{Stores, FieldsStore, CaseStores, EachStores}
use Rattle.canonical_abi.proofs.Traces.BytesWrittenOver.{length-le_bytes}
use Rattle.canonical_abi.proofs.Layouts.LeastPlaces.{le-next_multiple_of}
use Rattle.canonical_abi.proofs.Layouts.AlignmentsAndSizes.{stepped, end-le, greatest-le}
use Rattle.values.specs.Bytes.{AreBytes}
use Rattle.ranges.specs.Bytewise.{caps, cap_at, fields_cap, case_cap, each_cap, each_nodes, nodes_at, nodes_in, nodes_of_case, IsBytewise, AreBytewise, AreBytewiseCases, IsTested, AreTested, IsTestedCase, Blends}
use Rattle.canonical_abi.proofs.StoredValues.VisitsNodes.{visited-both}
use Rattle.ranges.proofs.TracesThatOnlyWrite.{Puts, puts-both}
use Rattle.ranges.proofs.CapsAndBlends.{tag-below, payload-inside, blends-nothing, blends-field, blends-case, blends-element}
use Rattle.ranges.proofs.OneNumberCrosses.{number-small, number-blends, prim-crosses}

-- ---- discriminants and flags are numbers of 1, 2 or 4 bytes

-- a number of so many bytes
record IsSized (k : ℕ) : Type 0 where
  width : IntWidth
  same_width : byte_width k ≡ width_of width
  same_size : k ≡ byte_len (width_of width)
  same_bits : 8 * k ≡ bits width

stepped-sized : (b c : Bool) → IsSized (stepped b c)
stepped-sized true c = record { width = int8; same_width = refl; same_size = refl; same_bits = refl }
stepped-sized false true = record { width = int16; same_width = refl; same_size = refl; same_bits = refl }
stepped-sized false false = record { width = int32; same_width = refl; same_size = refl; same_bits = refl }

discriminant-sized : (n : ℕ) → IsSized (discriminant_size n)
discriminant-sized n = stepped-sized (nat_le n 256) (nat_le n 65536)

flags-sized : (n : ℕ) → IsSized (flags_size n)
flags-sized n = stepped-sized (nat_le n 8) (nat_le n 16)

module _ (m : List ℕ) (bytes : AreBytes m) where
  sized-blends : (k : ℕ) → IsSized k → (n a : ℕ) (old : List ℕ) (at : ℕ) → n ≡ number_at m a (byte_width k) → a + k ≤ length m → at + k ≤ length old
      → (at + length (to_le_bytes (byte_width k) n) ≤ length old) × Blends (caps k 255) m a old at (overwrite old at (to_le_bytes (byte_width k) n))
  sized-blends k s n a old at e inside fits = rw s.same_width (
    omega (arith, length-le_bytes (width_of s.width) n, s.same_size, fits),
    rw s.same_size (number-blends m bytes s.width n a old at (e ∙ ap (number_at m a) s.same_width) (omega (arith, s.same_size, inside)) (omega (arith, s.same_size, fits))),
  )

  sized-small : (k : ℕ) → IsSized k → (n : ℕ) → n ≡ 8 * k → (a : ℕ) → number_at m a (byte_width k) < 2 ^ n
  sized-small k s n e a = let f : n ≡ bits s.width = e ∙ s.same_bits in rw (s.same_width, f) (number-small m bytes s.width a)

  -- a value that stands at a, stored at `at`
  pub record Crossing (t : ClosedType) (a : ℕ) (old : List ℕ) (at : ℕ) : Type 0 where
    pub value : Value
    pub held : Holds t m a value
    pub events : List Event
    pub stored : Stores t at value events
    pub new : List ℕ
    pub puts : Puts events old new
    pub blends : Blends (cap_at t m a) m a old at new
    pub visited : nodes_of events ≡ nodes_at t m a

  pub record FieldsCrossing (fs : Fields) (a from : ℕ) (old : List ℕ) (at : ℕ) : Type 0 where
    pub values : List Value
    pub held : FieldsHold fs m a from values
    pub events : List Event
    pub stored : FieldsStore fs at from values events
    pub new : List ℕ
    pub puts : Puts events old new
    pub blends : Blends (fields_cap fs m a from) m a old at new
    pub visited : nodes_of events ≡ nodes_in fs m a from

  -- of case i, which is case n of these
  pub record CaseCrossing (cs : Cases) (i n b : ℕ) (old : List ℕ) (at : ℕ) : Type 0 where
    pub value : Value
    pub held : CaseHolds cs m b i n value
    pub events : List Event
    pub stored : CaseStores cs at i n value events
    pub new : List ℕ
    pub puts : Puts events old new
    pub blends : Blends (case_cap cs m b n) m b old at new
    pub visited : nodes_of events ≡ nodes_of_case cs m b n

  mutual
    pub crosses : (t : ClosedType) → IsBytewise t → (a : ℕ) (old : List ℕ) (at : ℕ) → IsTested t m a → a + size t ≤ length m → at + size t ≤ length old → Crossing t a old at
    crosses (prim_type p) b a old at tested inside fits =
        let c = prim-crosses m bytes p a old at tested inside fits in
        record { value = c.value; held = c.held; events = _; stored = (c.typed, refl); new = _; puts = (c.fits, refl); blends = c.blends; visited = refl }
    crosses string_type b a old at tested inside fits = elim b [ ]
    crosses (list_type t) b a old at tested inside fits = elim b [ ]
    crosses (record_type fs) b a old at tested inside fits =
        let end = le-next_multiple_of (end_from 0 (field_extents fs)) (align (record_type fs)) in
        let c = fields-cross fs b a 0 old at tested (omega (arith, end, inside)) (omega (arith, end, fits)) in
        record {
          value = record_value (values_of c.values);
          held = (c.values, c.held, refl);
          events = node ∷ c.events;
          stored = (c.values, c.events, refl, refl, c.stored);
          new = c.new;
          puts = c.puts;
          blends = c.blends;
          visited = ap (λ k. suc k) c.visited;
        }
    crosses (variant_type cs) b a old at tested inside fits =
        let n = case_number cs m a in
        let tag = discriminant_size (case_count cs) in
        let below = tag-below cs in
        let room = payload-inside cs in
        let put = sized-blends tag (discriminant-sized (case_count cs)) n a old at refl (omega (arith, below, room, inside)) (omega (arith, below, room, fits)) in
        let same = put.1.same_length in
        let c = case-cross 0 cs b n n (a + payload_place cs) (overwrite old at (to_le_bytes (byte_width tag) n)) (at + payload_place cs) tested
        (omega (arith, room, inside)) (omega (arith, room, fits, same)) in
        record {
          value = c.value;
          held = c.held;
          events = node ∷ write at (to_le_bytes (byte_width tag) n) ∷ c.events;
          stored = (n, c.events, refl, c.stored);
          new = c.new;
          puts = (put.0, c.puts);
          blends = blends-case cs m a old at _ c.new put.1 c.blends;
          visited = ap (λ k. suc k) c.visited;
        }
    crosses (flags_type n) b a old at tested inside fits =
        let k = number_at m a (byte_width (flags_size n)) in
        let s = flags-sized n in
        let small : k < 2 ^ n = elim tested [ inl e ↦ sized-small (flags_size n) s n e a | inr l ↦ l ] in
        let low : k % 2 ^ n ≡ k = mod-eq_of_lt small in
        let put = sized-blends (flags_size n) s (k % 2 ^ n) a old at low inside fits in
        record {
          value = flags_value (k % 2 ^ n);
          held = refl;
          events = node ∷ write at (to_le_bytes (byte_width (flags_size n)) (k % 2 ^ n)) ∷ [];
          stored = (k % 2 ^ n, refl, mod-lt k (pow_pos n), refl);
          new = _;
          puts = (put.0, refl);
          blends = put.1;
          visited = refl;
        }

    pub fields-cross : (fs : Fields) → AreBytewise fs → (a from : ℕ) (old : List ℕ) (at : ℕ) → AreTested fs m a from
        → a + end_from from (field_extents fs) ≤ length m → at + end_from from (field_extents fs) ≤ length old → FieldsCrossing fs a from old at
    fields-cross no_field b a from old at tested inside fits =
        record { values = []; held = refl; events = []; stored = (refl, refl); new = old; puts = refl; blends = blends-nothing m a old at; visited = refl }
    fields-cross (field t fs) b a from old at tested inside fits =
        let place = next_multiple_of from (align t) in
        let end = end-le (place + size t) (field_extents fs) in
        let first = crosses t b.0 (a + place) old (at + place) tested.0 (omega (arith, end, inside)) (omega (arith, end, fits)) in
        let same = first.blends.same_length in
        let rest = fields-cross fs b.1 a (place + size t) first.new at tested.1 inside (omega (arith, same, fits)) in
        record {
          values = first.value ∷ rest.values;
          held = (first.value, rest.values, refl, first.held, rest.held);
          events = first.events ++ rest.events;
          stored = (first.value, rest.values, first.events, rest.events, refl, refl, first.stored, rest.stored);
          new = rest.new;
          puts = puts-both first.events rest.events old first.new rest.new first.puts rest.puts;
          blends = blends-field t fs from m a old at first.new rest.new first.blends rest.blends;
          visited = omega (arith, visited-both first.events rest.events, first.visited, rest.visited);
        }

    pub case-cross : (k : ℕ) (cs : Cases) → AreBytewiseCases cs → (i n b : ℕ) (old : List ℕ) (at : ℕ) → IsTestedCase cs m b n
        → b + fold (λ n x. max n x.size) k (payload_extents cs) ≤ length m → at + fold (λ n x. max n x.size) k (payload_extents cs) ≤ length old → CaseCrossing cs i n b old at
    case-cross k no_case s i n b old at tested inside fits = elim tested [ ]
    case-cross k (plain_case cs) s i zero b old at tested inside fits =
        record { value = plain_value i; held = refl; events = []; stored = (refl, refl); new = old; puts = refl; blends = blends-nothing m b old at; visited = refl }
    case-cross k (plain_case cs) s i (suc n) b old at tested inside fits =
        let c = case-cross k cs s i n b old at tested inside fits in
        record { value = c.value; held = c.held; events = c.events; stored = c.stored; new = c.new; puts = c.puts; blends = c.blends; visited = c.visited }
    case-cross k (case_with t cs) s i zero b old at tested inside fits =
        let le = greatest-le (max k (size t)) (payload_extents cs) in
        let c = crosses t s.0 b old at tested (omega (arith, le, inside)) (omega (arith, le, fits)) in
        record {
          value = payload_value i c.value;
          held = (c.value, c.held, refl);
          events = c.events;
          stored = (c.value, refl, c.stored);
          new = c.new;
          puts = c.puts;
          blends = c.blends;
          visited = c.visited;
        }
    case-cross k (case_with t cs) s i (suc n) b old at tested inside fits =
        let c = case-cross (max k (size t)) cs s.1 i n b old at tested inside fits in
        record { value = c.value; held = c.held; events = c.events; stored = c.stored; new = c.new; puts = c.puts; blends = c.blends; visited = c.visited }

  -- ---- elements one after another

  pub record EachCrossing (t : ClosedType) (a n : ℕ) (old : List ℕ) (at : ℕ) : Type 0 where
    pub values : List Value
    pub held : EachHolds (Holds t m) (size t) a n values
    pub events : List Event
    pub stored : EachStores (Stores t) (size t) at values events
    pub new : List ℕ
    pub puts : Puts events old new
    pub blends : Blends (each_cap t m a n) m a old at new
    pub visited : nodes_of events ≡ each_nodes t m a n

  pub each-cross : (t : ClosedType) → IsBytewise t → (n a : ℕ) (old : List ℕ) (at : ℕ) → ((i : ℕ) → i < n → IsTested t m (a + i * size t))
      → a + n * size t ≤ length m → at + n * size t ≤ length old → EachCrossing t a n old at
  each-cross t b zero a old at tested inside fits =
      record { values = []; held = refl; events = []; stored = refl; new = old; puts = refl; blends = blends-nothing m a old at; visited = refl }
  each-cross t b (suc n) a old at tested inside fits =
      let here : a + 0 * size t ≡ a = omega arith in
      let first = crosses t b a old at (rw here at (tested 0 (omega arith))) (omega (arith, inside)) (omega (arith, fits)) in
      let same = first.blends.same_length in
      let rest = each-cross t b n (a + size t) first.new (at + size t) (λ i h. let e : a + size t + i * size t ≡ a + suc i * size t = omega arith in rw e (tested (suc i) (omega (arith, h))))
      (omega (arith, inside)) (omega (arith, same, fits)) in
      record {
        values = first.value ∷ rest.values;
        held = (first.value, rest.values, refl, first.held, rest.held);
        events = first.events ++ rest.events;
        stored = (first.events, rest.events, refl, first.stored, rest.stored);
        new = rest.new;
        puts = puts-both first.events rest.events old first.new rest.new first.puts rest.puts;
        blends = blends-element t n m a old at first.new rest.new first.blends rest.blends;
        visited = omega (arith, visited-both first.events rest.events, first.visited, rest.visited);
      }
