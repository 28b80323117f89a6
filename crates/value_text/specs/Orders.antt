-- The order of a record's labels by their bytes.
use Rattle.std.specs.Prelude.{◌≡◌, ◌⊎◌, ◌<◌, ℕ, zero, suc, List, [], ◌∷◌, length}
use Rattle.std.specs.Ordering.{nat_cmp}
use Rattle.std.specs.declared.cmp.Ordering.TheVariants.{Less}
use Rattle.std.specs.Cmp.Lexicographic.{slice_cmp}
use Rattle.std.specs.List.{AllByRecursion}
use Rattle.std.specs.Prelude.{Vec}
use Rattle.std.specs.Global.{Global}
use Rattle.tables.specs.declared.tables.Field.{Field}
use Rattle.tables.specs.declared.tables.TypeDefKind.{TypeDefKind}
use Rattle.tables.specs.declared.tables.TypeDefKind.TheVariants as kind
use Rattle.tables.specs.declared.tables.Definition.{Definition}
use Rattle.tables.specs.declared.tables.Definition.TheVariants as row

-- the label of field i, or no bytes where there is none
abbrev pub label_at : List Field → ℕ → List ℕ
label_at [] i = []
label_at (f ∷ fs) zero = f.name
label_at (f ∷ fs) (suc i) = label_at fs i

-- the labels of these fields ascend
abbrev pub Ascends : List Field → List ℕ → Type 0
Ascends fs [] = Unit {0}
Ascends fs (i ∷ is) = AllByRecursion (λ j. slice_cmp nat_cmp (label_at fs i) (label_at fs j) ≡ Less) is × Ascends fs is

abbrev pub IsIn : ℕ → List ℕ → Type 0
IsIn i [] = ⊥
IsIn i (j ∷ js) = (i ≡ j) ⊎ IsIn i js

-- the indexes of these fields, each once, in the order of the labels' bytes
abbrev pub IsLabelOrder : List Field → List ℕ → Type 0
IsLabelOrder fs is = (length is ≡ length fs) × AllByRecursion (λ i. i < length fs) is × Ascends fs is × ((i : ℕ) → i < length fs → IsIn i is)

-- the type is no record, or these are its fields in the order of their labels
abbrev pub KindOrdered : TypeDefKind → List ℕ → Type 0
KindOrdered (kind.Record fs) is = IsLabelOrder fs is
KindOrdered _ is = Unit {0}

abbrev pub RowOrdered : Definition → List ℕ → Type 0
RowOrdered (row.Type d) is = KindOrdered d.kind is
RowOrdered (row.Function f) is = Unit {0}

-- each row has its order
abbrev pub AreOrders : List Definition → List (Vec ℕ Global) → Type 0
AreOrders [] os = Unit {0}
AreOrders (d ∷ ds) [] = ⊥
AreOrders (d ∷ ds) (o ∷ os) = RowOrdered d o.items × AreOrders ds os

abbrev pub IsRowOf : Definition → TypeDefKind → Type 0
IsRowOf (row.Type d) k = d.kind ≡ k
IsRowOf (row.Function f) k = ⊥

-- row i is a type of this kind
abbrev pub IsKindOf : List Definition → ℕ → TypeDefKind → Type 0
IsKindOf [] i k = ⊥
IsKindOf (d ∷ ds) zero k = IsRowOf d k
IsKindOf (d ∷ ds) (suc i) k = IsKindOf ds i k
