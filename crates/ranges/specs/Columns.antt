-- Plans of elements with variants inside: which bytes belong to no variant, and where the variants stand.
use Rattle.std.specs.Prelude.{◌≡◌, ◌⊎◌, ℕ, zero, suc, ◌+◌, ◌-◌, ◌*◌, ◌<◌, ◌≤◌, cond, nat_lt, List, [], ◌∷◌, get_or}
use Rattle.canonical_abi.specs.Types.{ClosedType}
use Rattle.canonical_abi.specs.Layout.{size}
use Rattle.ranges.specs.Bytewise.{IsBytewise, IsTested, cap_at, nodes_at, HasCaps}
use Rattle.ranges.specs.Plan.{IsBlank}
use Rattle.ranges.specs.declared.columns.Column.{Column}
use Rattle.ranges.specs.declared.rows.Rows.{Rows}
use Rattle.ranges.specs.declared.blend.Caps.{Caps}
use Rattle.ranges.specs.declared.planned.Plan.{Plan}

-- the number of the case that a column's variant has in the element at a in m
abbrev pub case_in : Column → List ℕ → ℕ → ℕ
case_in c m a = get_or m (a + c.at) 0

-- a cap of byte i of an element, after the row of case n was laid over those of a column's variant
abbrev pub laid : Column → ℕ → ℕ → ℕ → ℕ
laid c n i cap = cond (nat_lt i c.at) cap (cond (nat_lt i (c.at + c.rows.size)) (get_or c.rows.caps (n * 16 + (i - c.at)) 0) cap)

-- the cap of byte i after the rows of all columns are laid over it, by the cases of the element at a in m
abbrev pub overlaid : List Column → List ℕ → ℕ → ℕ → ℕ → ℕ
overlaid [] m a i cap = cap
overlaid (c ∷ cs) m a i cap = overlaid cs m a i (laid c (case_in c m a) i cap)

-- each column's variant has a case in the element at a in m
abbrev pub HaveCases : List Column → List ℕ → ℕ → Type 0
HaveCases [] m a = Unit {0}
HaveCases (c ∷ cs) m a = (case_in c m a < c.rows.cases) × HaveCases cs m a

-- the nodes of the variants in the element at a in m
abbrev pub column_nodes : List Column → List ℕ → ℕ → ℕ
column_nodes [] m a = 0
column_nodes (c ∷ cs) m a = get_or c.rows.nodes (case_in c m a) 0 + column_nodes cs m a

-- the nodes of the variants in n elements of so many bytes from a on
abbrev pub columns_seen : List Column → ℕ → List ℕ → ℕ → ℕ → ℕ
columns_seen cs step m a zero = 0
columns_seen cs step m a (suc n) = columns_seen cs step m a n + column_nodes cs m (a + n * step)

-- the columns stand before a place, and their rows are whole
abbrev pub AreBefore : ℕ → List Column → Type 0
AreBefore end [] = Unit {0}
AreBefore end (c ∷ cs) = (c.at + c.rows.size ≤ end) × (0 < c.rows.size) × (c.rows.size ≤ 16) × (c.rows.cases ≤ 16) × AreBefore end cs

-- the caps of all cases are masks: each keeps a byte or takes it
abbrev pub AreMasks : Rows → Type 0
AreMasks r = (i : ℕ) → i < r.cases * 16 → (get_or r.caps i 0 ≡ 0) ⊎ (get_or r.caps i 0 ≡ 255)

-- the cap of byte i of the element at a in m
abbrev pub planned_cap : Plan → List ℕ → ℕ → ℕ → ℕ
planned_cap p m a i = overlaid p.columns.items m a i (get_or p.plain.bytes i 0)

-- how many nodes the element at a in m has, its variants' among them
abbrev pub planned_nodes : Plan → List ℕ → ℕ → ℕ
planned_nodes p m a = p.plain.nodes + column_nodes p.columns.items m a

-- values that need no tests: all have these caps and so many nodes
pub record HasPlain (t : ClosedType) (c : Caps) : Type 0 where
  pub bytewise : IsBytewise t
  pub tested : (m : List ℕ) (a : ℕ) → IsTested t m a
  pub caps_are : HasCaps t c.size c.bytes
  pub nodes_are : (m : List ℕ) (a : ℕ) → nodes_at t m a ≡ c.nodes

-- a value's caps, tests and nodes, for any value whose variants have cases
pub record HasPlan (t : ClosedType) (p : Plan) : Type 0 where
  pub step_is : p.plain.size ≡ size t
  pub bytewise : IsBytewise t
  pub tested : (m : List ℕ) (a : ℕ) → HaveCases p.columns.items m a → IsTested t m a
  pub caps_are : (m : List ℕ) (a i : ℕ) → HaveCases p.columns.items m a → planned_cap p m a i ≡ cap_at t m a i
  pub nodes_are : (m : List ℕ) (a : ℕ) → HaveCases p.columns.items m a → nodes_at t m a ≡ planned_nodes p m a

-- values of this type were planned at a place of an element
pub record Plans (t : ClosedType) (at : ℕ) (old new : Plan) : Type 0 where
  pub bytewise : IsBytewise t
  pub kept : (m : List ℕ) (a : ℕ) → HaveCases new.columns.items m a → HaveCases old.columns.items m a
  pub tested : (m : List ℕ) (a : ℕ) → HaveCases new.columns.items m a → IsTested t m (a + at)
  pub caps : (m : List ℕ) (a i : ℕ) → HaveCases new.columns.items m a → planned_cap new m a (at + i) ≡ cap_at t m (a + at) i
  pub below : (m : List ℕ) (a i : ℕ) → i < at → planned_cap new m a i ≡ planned_cap old m a i
  pub visited : (m : List ℕ) (a : ℕ) → HaveCases new.columns.items m a → planned_nodes new m a ≡ planned_nodes old m a + nodes_at t m (a + at)
  pub blank : IsBlank new.plain.bytes (at + size t)
  pub before : AreBefore (at + size t) new.columns.items
  pub same_size : new.plain.size ≡ old.plain.size

-- an element has bytes, and not too many, and the columns stand within it
abbrev pub IsBounded : Plan → Type 0
IsBounded p = (0 < p.plain.size) × (p.plain.size ≤ 64) × AreBefore p.plain.size p.columns.items
