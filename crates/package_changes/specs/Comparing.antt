-- WIT.md, "Types": what a name stands for in the end, and what is known of types that were compared.
use Rattle.std.specs.Prelude.{◌≡◌, ◌≤◌, ℕ, suc, Bool, true, false, ◌&&◌, List, map, length, All, IsTrue, Option, Some}
use Rattle.std.specs.Option.{option_map}
use Rattle.std.specs.List.{list_all}
use Rattle.canonical_abi.specs.Labelled.{LabelledType, labelled_prim, labelled_string}
use Rattle.tables.specs.Closed.{prim_of}
use Rattle.tables.specs.Labelled.{labelled_val, labelled_kind, labelled_types, labelled_type}
use Rattle.tables.specs.Standard.{IsTypeOf}
use Rattle.tables.specs.Tables.{is_below, is_type, is_type_id, kind_all, option_all}
use Rattle.tables.specs.declared.tables.Parameter.{Parameter}
use Rattle.tables.specs.declared.tables.Resolve.{Resolve}
use Rattle.tables.specs.declared.tables.TypeId.{TypeId}
use Rattle.tables.specs.declared.tables.TypeDefKind.{TypeDefKind}
use Rattle.tables.specs.declared.tables.TypeDefKind.TheVariants as kind
use Rattle.tables.specs.declared.tables.ValType.{ValType}
use Rattle.tables.specs.declared.tables.ValType.TheVariants as val
use Rattle.package_changes.specs.declared.comparing.End.{End}
use Rattle.package_changes.specs.declared.comparing.End.TheVariants as end
use Rattle.package_changes.specs.declared.known.TypePair.{TypePair}
use Rattle.package_changes.specs.declared.known.Known.{Known}
use Rattle.package_changes.specs.declared.likeness.Likeness.{Likeness}
use Rattle.package_changes.specs.Likeness.{likeness}

-- the type at this place of a table
abbrev pub type_at : ℕ → ValType
type_at n = val.Id (record { 0 = n })

-- a type's place in the table, and 0 of a type that has none
abbrev pub rank : ValType → ℕ
rank (val.Primitive p) = 0
rank val.String = 0
rank (val.Id t) = suc t.0

-- a type of this kind is no name for another type
abbrev pub is_own : TypeDefKind → Bool
is_own (kind.Use t) = false
is_own (kind.Alias v) = false
is_own _ = true

-- the type at this place is of this kind, which is no name for another one and names earlier types
pub record IsOwnKind (r : Resolve) (n : ℕ) (k : TypeDefKind) : Type 0 where
  pub there : IsTypeOf r (type_at n)
  pub is : labelled_type r (type_at n) ≡ labelled_kind (labelled_types r) k
  pub own : IsTrue (is_own k)
  pub below : IsTrue (kind_all (is_below n) k)
  pub typed : IsTrue (kind_all (is_type r.definitions) k)

-- what a type is in the end, after all names for other types
abbrev pub IsEndOf : Resolve → ValType → End → Type 0
IsEndOf r v (end.Primitive p) = labelled_type r v ≡ labelled_prim (prim_of p)
IsEndOf r v end.String = labelled_type r v ≡ labelled_string
IsEndOf r v (end.Node n k) = (labelled_type r v ≡ labelled_type r (type_at n)) × IsOwnKind r n k.now × (suc n ≤ rank v)

-- the labelled types of parts; none of a case without a payload
abbrev pub part_types : Resolve → List (Option ValType) → List (Option LabelledType)
part_types r ps = map (option_map (labelled_type r)) ps

-- the parts are types of the table
abbrev pub AreTyped : Resolve → List (Option ValType) → Type 0
AreTyped r ps = IsTrue (list_all (option_all (is_type r.definitions)) ps)

-- the parts are types of the table before place n
abbrev pub AreParts : Resolve → ℕ → List (Option ValType) → Type 0
AreParts r n ps = IsTrue (list_all (option_all (is_below n)) ps) × AreTyped r ps

-- the parameters' types are types of the table
abbrev pub AreParametersOf : Resolve → List Parameter → Type 0
AreParametersOf r ps = AreParts r (length r.definitions) (map (λ p. Some p.ty) ps)

-- what is known of a pair of types is true
abbrev pub IsRight : Resolve → Resolve → TypePair × Likeness → Type 0
IsRight r s e = e.1 ≡ likeness (labelled_type r (type_at e.0.old)) (labelled_type s (type_at e.0.new))

-- all that is known of pairs of types is true
abbrev pub AreRight : Resolve → Resolve → Known → Type 0
AreRight r s k = All (IsRight r s) k.pairs.entries
