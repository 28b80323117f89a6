-- How packages are arranged: in an order, or some of them in a ring. Packages are numbers; `uses` has what each of them depends on.
use Rattle.std.specs.Prelude.{◌≡◌, ℕ, ◌<◌, ◌+◌, ◌-◌, Bool, false, not, List, [], length, slice_index, slice_index_or, All, Contains}
use Rattle.placement.specs.Order.{IsPlacement}
use Rattle.checked_packages.specs.declared.package_order.order.Arrangement.{Arrangement}
use Rattle.checked_packages.specs.declared.package_order.order.Arrangement.TheVariants.{Order, Cycle}

-- i depends on j
abbrev pub Uses : List (List ℕ) → ℕ → ℕ → Type 0
Uses uses i j = Contains (slice_index_or uses i []) j

-- each of these packages depends on the next
abbrev pub IsChain : List (List ℕ) → List ℕ → Type 0
IsChain uses path = (k : ℕ) → k + 1 < length path → Uses uses (slice_index path k) (slice_index path (k + 1))

-- a ring of packages, not empty: each depends on the next, and the last on the first
pub record IsRing (uses : List (List ℕ)) (path : List ℕ) : Type 0 where
  pub some : 0 < length path
  pub within : All (λ i. i < length uses) path
  pub chain : IsChain uses path
  pub closed : Uses uses (slice_index path (length path - 1)) (slice_index path 0)

-- all packages in order: each after those that it depends on, and each time the first that can come next
pub record IsOrder (uses : List (List ℕ)) (order : List ℕ) : Type 0 where
  pub placement : IsPlacement uses order
  pub within : All (λ i. i < length uses) order
  pub count : length order ≡ length uses

-- all packages in an order, or some of them in a ring
abbrev pub IsArranged : List (List ℕ) → Arrangement → Type 0
IsArranged uses (Order order) = IsOrder uses order
IsArranged uses (Cycle path) = IsRing uses path

-- package i is marked; one that isn't there has no mark
abbrev pub is_marked_package : List Bool → ℕ → Bool
is_marked_package marks i = slice_index_or marks i false

-- package i is not marked
abbrev pub is_left : List Bool → ℕ → Bool
is_left marks i = not (is_marked_package marks i)
