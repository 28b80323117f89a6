-- Rows that are the same, but that a used name may stand for another row of the same name.
use Rattle.std.proofs.Common.{◌≡◌, ℕ, ◌+◌, ◌<◌, List, [], ◌∷◌, Option, Some}
use Rattle.tables.specs.declared.tables.TypeId.{TypeId}
use Rattle.tables.specs.declared.tables.TypeDefKind.TheVariants as kind
use Rattle.tables.specs.declared.tables.TypeName.{TypeName}
use Rattle.tables.specs.declared.tables.Definition.{Definition}
use Rattle.tables.specs.declared.tables.Definition.TheVariants as row
use Rattle.package_form.specs.Reached.{name_at}

pub data IsAlike (rows : List Definition) (n : ℕ) : Definition → Definition → Type 0 where
  same : (d : Definition) → IsAlike rows n d d
  uses : (x : Option TypeName) (t u : TypeId) (y : TypeName) → name_at rows (Some t) ≡ Some y → name_at rows (Some u) ≡ Some y → u.0 < n
      → IsAlike rows n (row.Type (record { name = x; kind = kind.Use t })) (row.Type (record { name = x; kind = kind.Use u }))

-- row by row, the first of which stands at place n
pub data AreAlike (rows : List Definition) : ℕ → List Definition → List Definition → Type 0 where
  none : (n : ℕ) → AreAlike rows n [] []
  one_more : (n : ℕ) (d e : Definition) (ds es : List Definition) → IsAlike rows n d e → AreAlike rows (n + 1) ds es → AreAlike rows n (d ∷ ds) (e ∷ es)
