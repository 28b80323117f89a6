-- What is declared of a row: its indices are in range, its counts keep the limits, and it takes the type entries that are counted of it.
use Rattle.std.proofs.Common.{◌≡◌, ℕ, ◌+◌, ◌<◌, ◌≤◌, Bool, true, false, nat_lt, List, [], ◌∷◌, ◌++◌, map, flat_map, length, slice_index, Option, None, Some, refl, sym, subst, append_assoc, arith}
use Rattle.std.proofs.lemmas.Bool.Decides.{nat_tests}
use Rattle.std.proofs.lemmas.List.{length-map}
use Rattle.std.specs.Option.{option_map, option_len}
use Rattle.ctype_format.specs.Raw.{Defined, Decl}
use Rattle.ctype_format.specs.View.{decls_of}
use Rattle.ctype_format.specs.Formed.{All}
use Rattle.ctype_bin.specs.InRange.{ValTypeInRange, OptionInRange, FieldInRange, CaseInRange, DefinedInRange, FunctionInRange, DeclsInRange}
use Rattle.ctype_bin.specs.Accepted.{Among, AllowedDecls, entries_of_decls}
use Rattle.tables.specs.Tables.{is_within, is_standard_kind, is_standard}
use Rattle.tables.specs.declared.tables.TypeId.{TypeId}
use Rattle.tables.specs.declared.tables.ValType.{ValType}
use Rattle.tables.specs.declared.tables.ValType.TheVariants as val
use Rattle.tables.specs.declared.tables.TypeDefKind.{TypeDefKind}
use Rattle.tables.specs.declared.tables.TypeDefKind.TheVariants as kind
use Rattle.tables.specs.declared.tables.TypeName.{TypeName}
use Rattle.tables.specs.declared.tables.Function.{Function}
use Rattle.tables.specs.declared.tables.Definition.{Definition}
use Rattle.tables.specs.declared.tables.Definition.TheVariants as row
use Rattle.package_form.specs.Postfix.{is_inner}
use Rattle.package_form.specs.Ids.{is_use}
use Rattle.package_form.specs.Entries.{entries_under, entries_of}
use Rattle.package_form.specs.References.{type_references, references_if, field_references, case_references, parameter_references, kind_references, row_references}
use Rattle.wit_component.specs.Rows.{Place, valtype_of, field_of, parameter_of, case_of, signature_of, defined_of, definition_declared, definition_index, type_export, row_declarations, defined_types, place_after}
use Rattle.wit_component.specs.Component.{instance_export, row_alias}
use Rattle.package_form.specs.Reached.{used_by, name_at}

pub all-split : {X : Type 0} (P : X → Type 0) (xs ys : List X) → All P (xs ++ ys) → All P xs × All P ys
all-split P [] ys h = (tt, h)
all-split P (x ∷ xs) ys h = let s = all-split P xs ys h.1 in ((h.0, s.0), s.1)

abbrev pub is_use_def : Definition → Bool
is_use_def (row.Type d) = is_use d.kind
is_use_def (row.Function f) = false

-- a type without a name is one that can stand so
abbrev pub StandsSo : Option TypeName → TypeDefKind → Type 0
StandsSo o k = o ≡ None → is_inner k ≡ true

abbrev pub CanStand : Definition → Type 0
CanStand (row.Type d) = StandsSo d.name d.kind
CanStand (row.Function f) = Unit {0}

-- ---- value types

-- the type index of a row is below this count
abbrev pub IsKnown : List ℕ → ℕ → TypeId → Type 0
IsKnown indices types t = slice_index indices t.0 < types

module _ (indices : List ℕ) (types : ℕ) where
  abbrev Known : List TypeId → Type 0
  Known ts = All (IsKnown indices types) ts

  val-range : (v : ValType) → Known (type_references v) → ValTypeInRange types (valtype_of indices v)
  val-range (val.Primitive p) h = tt
  val-range val.String h = tt
  val-range (val.Id t) h = h.0

  if-range : (v : Option ValType) → Known (references_if v) → OptionInRange types (option_map (valtype_of indices) v)
  if-range None h = tt
  if-range (Some v) h = val-range v h

  all-range : {X Y : Type 0} (g : X → List TypeId) (w : X → Y) (R : Y → Type 0) → ((x : X) → Known (g x) → R (w x)) → (xs : List X) → Known (flat_map g xs) → All R (map w xs)
  all-range g w R e [] h = tt
  all-range g w R e (x ∷ xs) h = let s = all-split (IsKnown indices types) (g x) (flat_map g xs) h in (e x s.0, all-range g w R e xs s.1)

  abbrev IfDefined : Option Defined → Type 0
  IfDefined None = Unit {0}
  IfDefined (Some d) = DefinedInRange types d

  defined-range : (k : TypeDefKind) → Known (kind_references k) → IfDefined (defined_of indices k)
  defined-range (kind.Use t) h = tt
  defined-range (kind.Alias (val.Primitive p)) h = tt
  defined-range (kind.Alias val.String) h = tt
  defined-range (kind.Alias (val.Id t)) h = tt
  defined-range (kind.List v) h = val-range v h
  defined-range (kind.Option v) h = val-range v h
  defined-range (kind.Result v w) h = let s = all-split (IsKnown indices types) (references_if v) (references_if w) h in (if-range v s.0, if-range w s.1)
  defined-range (kind.Tuple vs) h = all-range type_references (valtype_of indices) (ValTypeInRange types) val-range vs h
  defined-range (kind.Record fs) h = all-range field_references (field_of indices) (FieldInRange types) (λ f q. val-range f.ty q) fs h
  defined-range (kind.Variant cs) h = all-range case_references (case_of indices) (CaseInRange types) (λ c q. if-range c.ty q) cs h
  defined-range (kind.Enum ns) h = tt
  defined-range (kind.Flags ns) h = tt

  pub signature-range : (f : Function) → Known (row_references (row.Function f)) → FunctionInRange types (signature_of indices f)
  signature-range f h =
      let s = all-split (IsKnown indices types) (flat_map parameter_references f.params) (references_if f.result) h in
      (all-range parameter_references (parameter_of indices) (FieldInRange types) (λ p q. val-range p.ty q) f.params s.0, if-range f.result s.1)

-- ---- indices, where the component type around has so many types

module _ (count instances : ℕ) (at : Place) where
  abbrev Ranged : ℕ → List Decl → Type 0
  Ranged types ds = DeclsInRange (0 ∷ count ∷ []) types instances (decls_of ds)

  at-count : (m n : ℕ) (ds : List Decl) → m ≡ n → Ranged m ds → Ranged n ds
  at-count m n ds e h = subst (λ (c : ℕ). Ranged c ds) e h

  definition-range : (k : TypeDefKind) (rest : List Decl) → All (IsKnown at.indices at.types) (kind_references k) → (is_use k ≡ true → at.used < count) → Ranged (at.types + defined_types k) rest → Ranged at.types (definition_declared at k ++ rest)
  unfolding DeclsInRange
  definition-range (kind.Use t) rest h used r = ((omega arith, used refl), r)
  definition-range (kind.Alias (val.Primitive p)) rest h used r = (tt, r)
  definition-range (kind.Alias val.String) rest h used r = (tt, r)
  definition-range (kind.Alias (val.Id t)) rest h used r = at-count (at.types + 0) at.types rest (omega arith) r
  definition-range (kind.List v) rest h used r = (defined-range at.indices at.types (kind.List v) h, r)
  definition-range (kind.Option v) rest h used r = (defined-range at.indices at.types (kind.Option v) h, r)
  definition-range (kind.Result v w) rest h used r = (defined-range at.indices at.types (kind.Result v w) h, r)
  definition-range (kind.Tuple vs) rest h used r = (defined-range at.indices at.types (kind.Tuple vs) h, r)
  definition-range (kind.Record fs) rest h used r = (defined-range at.indices at.types (kind.Record fs) h, r)
  definition-range (kind.Variant cs) rest h used r = (defined-range at.indices at.types (kind.Variant cs) h, r)
  definition-range (kind.Enum ns) rest h used r = (tt, r)
  definition-range (kind.Flags ns) rest h used r = (tt, r)

  index-range : (k : TypeDefKind) → All (IsKnown at.indices at.types) (kind_references k) → definition_index at k < at.types + defined_types k
  index-range (kind.Use t) h = omega arith
  index-range (kind.Alias (val.Primitive p)) h = omega arith
  index-range (kind.Alias val.String) h = omega arith
  index-range (kind.Alias (val.Id t)) h = omega (arith, h.0)
  index-range (kind.List v) h = omega arith
  index-range (kind.Option v) h = omega arith
  index-range (kind.Result v w) h = omega arith
  index-range (kind.Tuple vs) h = omega arith
  index-range (kind.Record fs) h = omega arith
  index-range (kind.Variant cs) h = omega arith
  index-range (kind.Enum ns) h = omega arith
  index-range (kind.Flags ns) h = omega arith

  export-range : (o : Option TypeName) (types i : ℕ) (rest : List Decl) → i < types → Ranged (types + option_len o) rest → Ranged types (type_export o i ++ rest)
  unfolding DeclsInRange
  export-range None types i rest lt r = at-count (types + 0) types rest (omega arith) r
  export-range (Some n) types i rest lt r = (lt, r)

  pub row-range : (d : Definition) (rest : List Decl) → All (IsKnown at.indices at.types) (row_references d) → (is_use_def d ≡ true → at.used < count) → Ranged (place_after at d).types rest → Ranged at.types (row_declarations at d ++ rest)
  unfolding DeclsInRange
  row-range (row.Type d) rest h used r =
      let all : at.types + (defined_types d.kind + option_len d.name) ≡ at.types + defined_types d.kind + option_len d.name = omega arith in
      subst (λ (ds : List Decl). Ranged at.types ds) (sym (append_assoc (definition_declared at d.kind) (type_export d.name (definition_index at d.kind)) rest))
      (definition-range d.kind (type_export d.name (definition_index at d.kind) ++ rest) h used
      (export-range d.name (at.types + defined_types d.kind) (definition_index at d.kind) rest (index-range d.kind h)
      (at-count (at.types + (defined_types d.kind + option_len d.name)) (at.types + defined_types d.kind + option_len d.name) rest all r)))
  row-range (row.Function f) rest h used r = (signature-range at.indices at.types f h, (omega arith, r))

-- ---- counts

within-is : (limit n : ℕ) → is_within n limit ≡ true → Among limit n
within-is limit n h = (grind (arith, nat_tests), grind (arith, nat_tests))

some-is : {X Y : Type 0} (w : X → Y) (xs : List X) → nat_lt 0 (length xs) ≡ true → 0 < length (map w xs)
some-is w xs h = let e = length-map xs w in let lt : 0 < length xs = grind (arith, nat_tests) in omega (arith, e, lt)

module _ (at : Place) (depth : ℕ) (component : Bool) where
  abbrev Allowed : List Decl → Type 0
  Allowed ds = AllowedDecls depth component (decls_of ds)

  export-allowed : (o : Option TypeName) (i : ℕ) (rest : List Decl) → Allowed rest → Allowed (type_export o i ++ rest)
  unfolding AllowedDecls
  export-allowed None i rest r = r
  export-allowed (Some n) i rest r = (tt, r)

  definition-allowed : (k : TypeDefKind) (rest : List Decl) → is_standard_kind k ≡ true → Allowed rest → Allowed (definition_declared at k ++ rest)
  unfolding AllowedDecls
  definition-allowed (kind.Use t) rest h r = (tt, r)
  definition-allowed (kind.Alias (val.Primitive p)) rest h r = (tt, r)
  definition-allowed (kind.Alias val.String) rest h r = (tt, r)
  definition-allowed (kind.Alias (val.Id t)) rest h r = r
  definition-allowed (kind.List v) rest h r = (tt, r)
  definition-allowed (kind.Option v) rest h r = (tt, r)
  definition-allowed (kind.Result v w) rest h r = (tt, r)
  definition-allowed (kind.Tuple vs) rest h r = (some-is (valtype_of at.indices) vs h, r)
  definition-allowed (kind.Record fs) rest h r = (some-is (field_of at.indices) fs h, r)
  definition-allowed (kind.Variant cs) rest h r = let e = length-map cs (case_of at.indices) in let a = within-is 100000 (length cs) h in ((omega (arith, e, a.0), omega (arith, e, a.1)), r)
  definition-allowed (kind.Enum ns) rest h r = (within-is 100000 (length ns) h, r)
  definition-allowed (kind.Flags ns) rest h r = (within-is 32 (length ns) h, r)

  pub row-allowed : (d : Definition) (rest : List Decl) → is_standard d ≡ true → Allowed rest → Allowed (row_declarations at d ++ rest)
  unfolding AllowedDecls
  row-allowed (row.Type d) rest h r =
      subst (λ (ds : List Decl). Allowed ds) (sym (append_assoc (definition_declared at d.kind) (type_export d.name (definition_index at d.kind)) rest))
      (definition-allowed d.kind (type_export d.name (definition_index at d.kind) ++ rest) h (export-allowed d.name (definition_index at d.kind) rest r))
  row-allowed (row.Function f) rest h r = (tt, (tt, r))

-- ---- type entries

one-alias : (o : Option TypeName) → length (instance_export o) ≤ 1
one-alias None = omega arith
one-alias (Some n) = omega arith

module _ (rows : List Definition) (at : Place) (rest : List Decl) where
  abbrev entries : List Decl → ℕ
  entries ds = entries_of_decls (decls_of ds)

  -- a type's declarations, and its alias in the component type
  type-entries : (k : TypeDefKind) (o : Option TypeName) → StandsSo o k → entries ((definition_declared at k ++ type_export o (definition_index at k)) ++ rest) + length (instance_export (name_at rows (used_by k))) ≤ entries_under o k + entries rest
  unfolding entries_of_decls
  type-entries (kind.Use t) None h = absurd (let e : false ≡ true = h refl in cc)
  type-entries (kind.Use t) (Some n) h = let one = one-alias (name_at rows (Some t)) in omega (arith, one)
  type-entries (kind.Alias (val.Primitive p)) None h = absurd (let e : false ≡ true = h refl in cc)
  type-entries (kind.Alias (val.Primitive p)) (Some n) h = omega arith
  type-entries (kind.Alias val.String) None h = absurd (let e : false ≡ true = h refl in cc)
  type-entries (kind.Alias val.String) (Some n) h = omega arith
  type-entries (kind.Alias (val.Id t)) None h = absurd (let e : false ≡ true = h refl in cc)
  type-entries (kind.Alias (val.Id t)) (Some n) h = omega arith
  type-entries (kind.List v) None h = omega arith
  type-entries (kind.List v) (Some n) h = omega arith
  type-entries (kind.Option v) None h = omega arith
  type-entries (kind.Option v) (Some n) h = omega arith
  type-entries (kind.Result v w) None h = omega arith
  type-entries (kind.Result v w) (Some n) h = omega arith
  type-entries (kind.Tuple vs) None h = omega arith
  type-entries (kind.Tuple vs) (Some n) h = omega arith
  type-entries (kind.Record fs) None h = absurd (let e : false ≡ true = h refl in cc)
  type-entries (kind.Record fs) (Some n) h = omega arith
  type-entries (kind.Variant cs) None h = absurd (let e : false ≡ true = h refl in cc)
  type-entries (kind.Variant cs) (Some n) h = omega arith
  type-entries (kind.Enum ns) None h = absurd (let e : false ≡ true = h refl in cc)
  type-entries (kind.Enum ns) (Some n) h = omega arith
  type-entries (kind.Flags ns) None h = absurd (let e : false ≡ true = h refl in cc)
  type-entries (kind.Flags ns) (Some n) h = omega arith

  pub row-entries : (d : Definition) → CanStand d → entries (row_declarations at d ++ rest) + length (row_alias rows d) ≤ entries_of d + entries rest
  unfolding entries_of_decls
  row-entries (row.Type d) h = type-entries d.kind d.name h
  row-entries (row.Function f) h = omega arith
