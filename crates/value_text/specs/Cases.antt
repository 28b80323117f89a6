-- CanonicalABI.md, "Despecialization": the cases of variants, options, results and enums.
use Rattle.std.specs.Prelude.{◌≡◌, ℕ, zero, suc, List, [], ◌∷◌, map, Option, None, Some}
use Rattle.canonical_abi.specs.Labelled.{Label, none_label, some_label, ok_label, error_label}
use Rattle.tables.specs.declared.tables.Case.{Case}
use Rattle.tables.specs.declared.tables.TypeDefKind.{TypeDefKind}
use Rattle.tables.specs.declared.tables.TypeDefKind.TheVariants as kind
use Rattle.tables.specs.declared.tables.ValType.{ValType}

-- a type of this kind has cases
abbrev pub HasCases : TypeDefKind → Type 0
HasCases (kind.Variant cs) = Unit {0}
HasCases (kind.Option t) = Unit {0}
HasCases (kind.Result ok error) = Unit {0}
HasCases (kind.Enum ls) = Unit {0}
HasCases _ = ⊥

abbrev pub label_case : Label → Case
label_case l = record { name = l; ty = None }

-- the cases of a type of this kind, in order; none where it has no cases
abbrev pub cases_of_kind : TypeDefKind → List Case
cases_of_kind (kind.Variant cs) = cs
cases_of_kind (kind.Option t) = label_case none_label ∷ record { name = some_label; ty = Some t } ∷ []
cases_of_kind (kind.Result ok error) = record { name = ok_label; ty = ok } ∷ record { name = error_label; ty = error } ∷ []
cases_of_kind (kind.Enum ls) = map label_case ls
cases_of_kind _ = []

-- case n of these has this label and this payload
abbrev pub IsCase : List Case → ℕ → Label → Option ValType → Type 0
IsCase [] n l p = ⊥
IsCase (c ∷ cs) zero l p = (c.name ≡ l) × (c.ty ≡ p)
IsCase (c ∷ cs) (suc n) l p = IsCase cs n l p

-- there is case n of these
abbrev pub IsAnyCase : List Case → ℕ → Type 0
IsAnyCase cs n = (l : Label) × (p : Option ValType) × IsCase cs n l p
