-- Types whose values cross byte by byte: which bytes of a value's place are its own, and what each becomes.
use Rattle.std.specs.Prelude.{◌≡◌, ◌⊎◌, ℕ, zero, suc, ◌+◌, ◌-◌, ◌*◌, ◌^◌, ◌<◌, cond, true, nat_lt, min, List, length, get_or}
use Rattle.std.specs.Int.{byte_len, next_multiple_of}
use Rattle.canonical_abi.specs.Types.{Prim, boolean, unsigned, signed, scalar_value, ClosedType, prim_type, string_type, list_type, record_type, variant_type, flags_type, Fields, no_field, field, Cases, no_case, plain_case, case_with, case_count}
use Rattle.canonical_abi.specs.Values.{Value, is_scalar}
use Rattle.canonical_abi.specs.Layout.{align, size, prim_width, discriminant_size, flags_size, payload_place}
use Rattle.canonical_abi.specs.Reading.{number_at, byte_width, case_number}
use Rattle.canonical_abi.specs.Memory.{Holds, EachHolds}
use Rattle.canonical_abi.specs.Storing.{Stores, EachStores}
use Rattle.canonical_abi.specs.Guest.{Memory, Allocation}
use Rattle.canonical_abi.specs.Trace.{Event, TraceLeads, nodes_of}

-- a byte that comes over another under a cap: 0 keeps the byte that was there, any other cap takes the new one, up to itself
abbrev pub capped_byte : ℕ → ℕ → ℕ → ℕ
capped_byte zero old new = old
capped_byte (suc cap) old new = min new (suc cap)

-- a bool is made 0 or 1; a number's bytes cross as they are
abbrev pub prim_cap : Prim → ℕ
prim_cap boolean = 1
prim_cap (unsigned w) = 255
prim_cap (signed w) = 255
prim_cap scalar_value = 255

-- an integer: each of its bytes crosses as it is, and any bits are a value of it
abbrev pub IsNumber : Prim → Type 0
IsNumber (unsigned w) = Unit {0}
IsNumber (signed w) = Unit {0}
IsNumber _ = ⊥

-- the cap of byte i if the first n bytes have this cap, and all others 0
abbrev pub caps : ℕ → ℕ → ℕ → ℕ
caps n cap i = cond (nat_lt i n) cap 0

abbrev mutual
  -- the cap of byte i of the place of the value at a in m: 0 where the byte is padding, or that of a payload that the case has not
  pub cap_at : ClosedType → List ℕ → ℕ → ℕ → ℕ
  cap_at (prim_type p) m a i = caps (byte_len (prim_width p)) (prim_cap p) i
  cap_at string_type m a i = 0
  cap_at (list_type t) m a i = 0
  cap_at (record_type fs) m a i = fields_cap fs m a 0 i
  cap_at (variant_type cs) m a i =
      cond (nat_lt i (discriminant_size (case_count cs))) 255
      (cond (nat_lt i (payload_place cs)) 0 (case_cap cs m (a + payload_place cs) (case_number cs m a) (i - payload_place cs)))
  cap_at (flags_type n) m a i = caps (flags_size n) 255 i

  -- the cap of byte i of the record at a, by the fields from offset `from` on; 0 if it is padding
  pub fields_cap : Fields → List ℕ → ℕ → ℕ → ℕ → ℕ
  fields_cap no_field m a from i = 0
  fields_cap (field t fs) m a from i =
      let place = next_multiple_of from (align t) in
      cond (nat_lt i place) 0 (cond (nat_lt i (place + size t)) (cap_at t m (a + place) (i - place)) (fields_cap fs m a (place + size t) i))

  -- the cap of byte i of the payload at b of case n of these; 0 if that case has no such byte
  pub case_cap : Cases → List ℕ → ℕ → ℕ → ℕ → ℕ
  case_cap no_case m b n i = 0
  case_cap (plain_case cs) m b zero i = 0
  case_cap (plain_case cs) m b (suc n) i = case_cap cs m b n i
  case_cap (case_with t cs) m b zero i = cap_at t m b i
  case_cap (case_with t cs) m b (suc n) i = case_cap cs m b n i

abbrev mutual
  -- values of this type cross byte by byte, once they are tested: they have no texts or lists
  pub IsBytewise : ClosedType → Type 0
  IsBytewise (prim_type p) = Unit {0}
  IsBytewise string_type = ⊥
  IsBytewise (list_type t) = ⊥
  IsBytewise (record_type fs) = AreBytewise fs
  IsBytewise (variant_type cs) = AreBytewiseCases cs
  IsBytewise (flags_type n) = Unit {0}

  -- values of all these fields cross byte by byte
  pub AreBytewise : Fields → Type 0
  AreBytewise no_field = Unit {0}
  AreBytewise (field t fs) = IsBytewise t × AreBytewise fs

  -- values of all these payloads cross byte by byte
  pub AreBytewiseCases : Cases → Type 0
  AreBytewiseCases no_case = Unit {0}
  AreBytewiseCases (plain_case cs) = AreBytewiseCases cs
  AreBytewiseCases (case_with t cs) = IsBytewise t × AreBytewiseCases cs

-- the number passes the test of the primitive: of a char, that it is the code of a character; others have no test
abbrev pub PrimTested : Prim → ℕ → Type 0
PrimTested scalar_value n = is_scalar n ≡ true
PrimTested _ n = Unit {0}

abbrev mutual
  -- what stands at a passes the tests of the type: characters, case numbers, and flags, which have no bit behind their labels
  pub IsTested : ClosedType → List ℕ → ℕ → Type 0
  IsTested (prim_type p) m a = PrimTested p (number_at m a (prim_width p))
  IsTested (record_type fs) m a = AreTested fs m a 0
  IsTested (variant_type cs) m a = IsTestedCase cs m (a + payload_place cs) (case_number cs m a)
  IsTested (flags_type n) m a = (n ≡ 8 * flags_size n) ⊎ (number_at m a (byte_width (flags_size n)) < 2 ^ n)
  IsTested _ m a = Unit {0}

  -- the fields of the record at a pass, from the end of the field before them on
  pub AreTested : Fields → List ℕ → ℕ → ℕ → Type 0
  AreTested no_field m a from = Unit {0}
  AreTested (field t fs) m a from =
      let place = next_multiple_of from (align t) in IsTested t m (a + place) × AreTested fs m a (place + size t)

  -- there is a case n of these, and its payload at b passes the tests
  pub IsTestedCase : Cases → List ℕ → ℕ → ℕ → Type 0
  IsTestedCase no_case m b n = ⊥
  IsTestedCase (plain_case cs) m b zero = Unit {0}
  IsTestedCase (plain_case cs) m b (suc n) = IsTestedCase cs m b n
  IsTestedCase (case_with t cs) m b zero = IsTested t m b
  IsTestedCase (case_with t cs) m b (suc n) = IsTestedCase cs m b n

abbrev mutual
  -- how many nodes the value at a has
  pub nodes_at : ClosedType → List ℕ → ℕ → ℕ
  nodes_at (record_type fs) m a = suc (nodes_in fs m a 0)
  nodes_at (variant_type cs) m a = suc (nodes_of_case cs m (a + payload_place cs) (case_number cs m a))
  nodes_at _ m a = 1

  -- how many nodes the fields of the record at a have, from the end of the field before them on
  pub nodes_in : Fields → List ℕ → ℕ → ℕ → ℕ
  nodes_in no_field m a from = 0
  nodes_in (field t fs) m a from = let place = next_multiple_of from (align t) in nodes_at t m (a + place) + nodes_in fs m a (place + size t)

  -- how many nodes the payload at b of case n of these has, and 0 without payload
  pub nodes_of_case : Cases → List ℕ → ℕ → ℕ → ℕ
  nodes_of_case no_case m b n = 0
  nodes_of_case (plain_case cs) m b zero = 0
  nodes_of_case (plain_case cs) m b (suc n) = nodes_of_case cs m b n
  nodes_of_case (case_with t cs) m b zero = nodes_at t m b
  nodes_of_case (case_with t cs) m b (suc n) = nodes_of_case cs m b n

-- lemma: bytes from a on come over those from `at` on, each under its cap
pub record Blends (cap : ℕ → ℕ) (m : List ℕ) (a : ℕ) (old : List ℕ) (at : ℕ) (new : List ℕ) : Type 0 where
  pub same_length : length new ≡ length old
  pub below : (x : ℕ) → x < at → get_or new x 0 ≡ get_or old x 0
  pub over : (i : ℕ) → get_or new (at + i) 0 ≡ capped_byte (cap i) (get_or old (at + i) 0) (get_or m (a + i) 0)

-- the cap of byte i of n elements from a on
abbrev pub each_cap : ClosedType → List ℕ → ℕ → ℕ → ℕ → ℕ
each_cap t m a zero i = 0
each_cap t m a (suc n) i = cond (nat_lt i (size t)) (cap_at t m a i) (each_cap t m (a + size t) n (i - size t))

-- the nodes of n elements from a on
abbrev pub each_nodes : ClosedType → List ℕ → ℕ → ℕ → ℕ
each_nodes t m a zero = 0
each_nodes t m a (suc n) = nodes_at t m a + each_nodes t m (a + size t) n

-- n values, one after another from a on, are stored one after another from `at` on
pub record Crosses (t : ClosedType) (m : List ℕ) (a n : ℕ) (allocates : Allocation) (old : Memory) (at : ℕ) (new : Memory) : Type 0 where
  pub values : List Value
  pub held : EachHolds (Holds t m) (size t) a n values
  pub events : List Event
  pub stored : EachStores (Stores t) (size t) at values events
  pub leads : TraceLeads allocates old events new
  pub visited : nodes_of events ≡ each_nodes t m a n

-- the caps of each value's place, whatever the value, as a list of bytes
pub record HasCaps (t : ClosedType) (step : ℕ) (bytes : List ℕ) : Type 0 where
  pub step_is : step ≡ size t
  pub caps_are : (m : List ℕ) (a i : ℕ) → i < step → get_or bytes i 0 ≡ cap_at t m a i

-- a variant's values, by the number of their case, which is their first byte: sixteen caps for each case, and the nodes of a value
pub record HasRows (t : ClosedType) (step cases : ℕ) (caps nodes : List ℕ) : Type 0 where
  pub step_is : step ≡ size t
  pub tested : (m : List ℕ) (a : ℕ) → get_or m a 0 < cases → IsTested t m a
  pub caps_are : (m : List ℕ) (a i : ℕ) → get_or m a 0 < cases → i < step → get_or caps (get_or m a 0 * 16 + i) 0 ≡ cap_at t m a i
  pub nodes_are : (m : List ℕ) (a : ℕ) → get_or m a 0 < cases → nodes_at t m a ≡ get_or nodes (get_or m a 0) 0
