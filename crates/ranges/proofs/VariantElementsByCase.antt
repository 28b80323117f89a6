-- Elements of a variant: the caps and the nodes of each are those of its case.
use Rattle.std.proofs.Common.{◌≡◌, inl, inr, ℕ, zero, suc, ◌+◌, ◌-◌, ◌*◌, ◌<◌, ◌≤◌, List, get_or, refl, arith}
use Rattle.std.proofs.lemmas.Bool.{cases_lt, lt-ltb, le-ltb}
use Rattle.std.proofs.Math.Nat.{mul-le-mul_right}
use Rattle.canonical_abi.specs.Types.{ClosedType}
use Rattle.canonical_abi.specs.Layout.{size}
use Rattle.ranges.specs.Bytewise.{cap_at, each_cap}

-- byte j of element e
pub each-at : (t : ClosedType) (m : List ℕ) (n a e j : ℕ) → e < n → j < size t → each_cap t m a n (e * size t + j) ≡ cap_at t m (a + e * size t) j
each-at t m zero a e j h g = absurd (omega (arith, h))
each-at t m (suc n) a zero j h g =
    let i : 0 * size t + j ≡ j = omega arith in
    let b : a + 0 * size t ≡ a = omega arith in
    rw (i, b, lt-ltb j (size t) g) refl
each-at t m (suc n) a (suc e) j h g =
    let i : suc e * size t + j ≡ size t + (e * size t + j) = omega arith in
    let b : a + suc e * size t ≡ a + size t + e * size t = omega arith in
    let back : size t + (e * size t + j) - size t ≡ e * size t + j = omega arith in
    rw (i, b, le-ltb (size t + (e * size t + j)) (size t) (omega arith), back) (each-at t m n (a + size t) e j (omega (arith, h)) g)

-- byte i of so many elements is one of theirs
pub below-by : (e n step : ℕ) → e * step < n * step → e < n
below-by e n step h = elim (cases_lt e n) [
  | inl b ↦ b
  | inr b ↦ (let g = mul-le-mul_right step b in absurd (omega (arith, g, h)))
]

-- ---- places

pub element-fits : (i n step : ℕ) → i < n → i * step + step ≤ n * step
element-fits i n step h = let g : suc i * step ≤ n * step = mul-le-mul_right step h in omega (arith, g)

-- the nodes of elements that have one of two cases: so many have the first, and so many the second
pub pair-nodes : (case : ℕ) → case < 2 → (nodes : List ℕ) (i z s r n : ℕ) → z + s ≡ i → r ≡ z * get_or nodes 0 0 + s * get_or nodes 1 0 → get_or nodes case 0 ≡ n
    → (y : ℕ) × (y + (s + case) ≡ suc i) × (r + n ≡ y * get_or nodes 0 0 + (s + case) * get_or nodes 1 0)
pair-nodes zero low nodes i z s r n sum told is = (suc z, omega (arith, sum), omega (arith, told, is))
pair-nodes (suc zero) low nodes i z s r n sum told is = (z, omega (arith, sum), omega (arith, told, is))
pair-nodes (suc (suc k)) low nodes i z s r n sum told is = absurd (omega (arith, low))
