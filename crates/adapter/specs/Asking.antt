-- CanonicalABI.md, "Storing" and "Flat Lowering" (the calls of `realloc`): the blocks that values will ask for, told ahead of them.
use Rattle.std.specs.Prelude.{◌≡◌, ℕ, zero, suc, ◌+◌, ◌-◌, ◌*◌, ◌^◌, ◌<◌, ◌≤◌, min, List, [], ◌∷◌, length, Result, Ok, Err}
use Rattle.canonical_abi.specs.Reading.{reading}
use Rattle.canonical_abi.specs.Requests.{requests}
use Rattle.canonical_abi.specs.Trace
use Rattle.canonical_abi.specs.Types.{ClosedType}
use Rattle.canonical_abi.specs.Values.{Value}
use Rattle.canonical_abi.specs.declared.trap.TrapKind.{TrapKind}
use Rattle.adapter.specs.declared.asking.request.Request.{Request}
use Rattle.adapter.specs.declared.asking.request.Untold.{Untold}
use Rattle.adapter.specs.declared.asking.request.Untold.TheVariants as untold

-- a request, as it is told
abbrev pub slot : Trace.Request → Request
slot r = record { align = r.align; size = r.size }

-- these requests over the slots from place n on, as far as the slots go
abbrev pub over : List Request → ℕ → List Trace.Request → List Request
over [] n rs = []
over (x ∷ xs) zero [] = x ∷ xs
over (x ∷ xs) zero (r ∷ rs) = slot r ∷ over xs zero rs
over (x ∷ xs) (suc n) rs = x ∷ over xs n rs

-- the bytes that these requests ask for
abbrev pub total : List Trace.Request → ℕ
total [] = 0
total (r ∷ rs) = r.size + total rs

-- these requests were told behind n others, and they are c then, as far as 64 bits count; of l bytes that may be asked for l2 are left
pub record IsTold (old : List Request) (n l : ℕ) (rs : List Trace.Request) (new : List Request) (c l2 : ℕ) : Type 0 where
  pub told : new ≡ over old n rs
  pub counted : min c (2 ^ 64 - 1) ≡ min (n + length rs) (2 ^ 64 - 1)
  pub spent : l ≡ l2 + total rs

-- why what is read wasn't told: it has this first fault, or asks for more than l bytes where it can be read at all
abbrev pub Stops : {A : Type 0} → Result A TrapKind → (A → List Trace.Request) → ℕ → Untold → Type 0
Stops read f l (untold.Fault k) = read ≡ Err k
Stops {A = A} read f l untold.AboveLimit = (v : A) → read ≡ Ok v → l < total (f v)

-- what is read was told by its requests, or this is why not
abbrev pub Asks : {A : Type 0} → Result A TrapKind → (A → List Trace.Request) → List Request → ℕ → ℕ → Result (Unit {0}) Untold → List Request → ℕ → ℕ → Type 0
Asks {A = A} read f old n l (Ok _) new c l2 = (v : A) × (read ≡ Ok v) × IsTold old n l (f v) new c l2
Asks read f old n l (Err e) new c l2 = Stops read f l e

-- of values that P allows: their requests stand over the front of the slots, they are so many, as far as 64 bits count, and ask for at
-- most `limit` bytes
abbrev pub IsToldAhead : (List Value → Type 0) → (List Value → List Trace.Request) → ℕ → List Request → List Request → ℕ → Type 0
IsToldAhead P f limit old new count =
    (vs : List Value) × P vs × (new ≡ over old 0 (f vs)) × (min count (2 ^ 64 - 1) ≡ min (length (f vs)) (2 ^ 64 - 1)) × (total (f vs) ≤ limit)

-- why nothing is told: a first fault that D allows, or all values that P allows ask for more than `limit` bytes
abbrev pub IsUntold : (List Value → Type 0) → (TrapKind → Type 0) → (List Value → List Trace.Request) → ℕ → Untold → Type 0
IsUntold P D f limit (untold.Fault k) = D k
IsUntold P D f limit untold.AboveLimit = (vs : List Value) → P vs → limit < total (f vs)

-- values of this type stand whatever their bytes are, and ask for nothing
abbrev pub AsksNothing : ClosedType → Type 0
AsksNothing t = (m : List ℕ) (a : ℕ) → (v : Value) × (reading t m a ≡ Ok v) × (requests t v ≡ [])

-- at most d values were visited for each of s bytes, or core values, and for each byte that was taken of those that may be asked for: of l bytes l2 are
-- left, and of n visited values they are n2
pub record IsFew (d s l l2 n n2 : ℕ) : Type 0 where
  pub spent : ℕ
  pub is : l ≡ l2 + spent
  pub few : n2 ≤ n + d * (s + spent)
