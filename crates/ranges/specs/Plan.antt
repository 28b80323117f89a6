-- What a plan tells of a type.
use Rattle.std.specs.Prelude.{◌≡◌, ℕ, suc, ◌+◌, ◌-◌, ◌*◌, ◌<◌, ◌≤◌, cond, nat_lt, List, Some, get_or}
use Rattle.canonical_abi.specs.Types.{ClosedType, Cases, case_count, nth_case}
use Rattle.canonical_abi.specs.Layout.{discriminant_size, payload_place}
use Rattle.ranges.specs.Bytewise.{IsBytewise, IsTested, IsTestedCase, cap_at, case_cap, nodes_at, nodes_of_case}

-- all caps are 0 from this place on
abbrev pub IsBlank : List ℕ → ℕ → Type 0
IsBlank bytes at = (i : ℕ) → at ≤ i → get_or bytes i 0 ≡ 0

-- values of this type cross byte by byte and need no tests, each has so many nodes, and their caps were put at a place
pub record Fills (t : ClosedType) (at : ℕ) (old new : List ℕ) (nodes : ℕ) : Type 0 where
  pub bytewise : IsBytewise t
  pub tested : (m : List ℕ) (a : ℕ) → IsTested t m a
  pub caps : (m : List ℕ) (a i : ℕ) → get_or new (at + i) 0 ≡ cap_at t m a i
  pub below : (i : ℕ) → i < at → get_or new i 0 ≡ get_or old i 0
  pub visited : (m : List ℕ) (a : ℕ) → nodes_at t m a ≡ nodes

-- the cap of byte i of the place of a value of case n, whose payload stands at b in m
abbrev pub row_cap : Cases → List ℕ → ℕ → ℕ → ℕ → ℕ
row_cap cs m b n i =
    cond (nat_lt i (discriminant_size (case_count cs))) 255 (cond (nat_lt i (payload_place cs)) 0 (case_cap cs m b n (i - payload_place cs)))

-- values of case n cross byte by byte and need no tests, each has so many nodes, and sixteen caps were put for them
pub record IsRow (cs : Cases) (n : ℕ) (caps : List ℕ) (nodes : ℕ) : Type 0 where
  pub bytewise : (u : ClosedType) → nth_case cs n ≡ Some (Some u) → IsBytewise u
  pub tested : (m : List ℕ) (b : ℕ) → IsTestedCase cs m b n
  pub caps_are : (m : List ℕ) (b i : ℕ) → i < 16 → get_or caps (n * 16 + i) 0 ≡ row_cap cs m b n i
  pub visited : (m : List ℕ) (b : ℕ) → suc (nodes_of_case cs m b n) ≡ nodes
