-- How many type entries a package takes is a function of its definitions: each inner type of a tree is one row.
use Rattle.std.proofs.Common.{◌≡◌, ◌+◌, ℕ, List, [], ◌∷◌, ◌++◌, map, flat_map, refl, sym, ap, ◌∙◌, arith, get_or, slice_get}
use Rattle.std.specs.Prelude.{true, false, not, sum, Option, None, Some, is_some}
use Rattle.std.specs.List.{list_all}
use Rattle.std.proofs.lemmas.Bool.{and_parts, false≢true}
use Rattle.tables.specs.Tables.{option_all, kind_all, definition_all, is_type, type_of, is_there}
use Rattle.tables.specs.Package.{Tree, TextTree, PrimTree, Reference, ListTree, VariantTree, RecordTree, FlagsTree, Meaning, IsUse, IsType, IsFunction, read_val, read_kind, meaning_of, references, named_by}
use Rattle.tables.specs.declared.tables.TypeId.{TypeId}
use Rattle.tables.specs.declared.tables.ValType.{ValType}
use Rattle.tables.specs.declared.tables.ValType.TheVariants as val
use Rattle.tables.specs.declared.tables.TypeDefKind.{TypeDefKind}
use Rattle.tables.specs.declared.tables.TypeDefKind.TheVariants as kind
use Rattle.tables.specs.declared.tables.TypeName.{TypeName}
use Rattle.tables.specs.declared.tables.TypeDef.{TypeDef}
use Rattle.tables.specs.declared.tables.Definition.{Definition}
use Rattle.tables.specs.declared.tables.Definition.TheVariants as row
use Rattle.package_form.specs.Postfix.{is_unnamed, is_unnamed_row, one_if, unnamed, unnamed_if, unnamed_parameter, parts, parts_of, aliased, aliased_by, Leaves}
use Rattle.package_form.specs.Entries.{entries_under, entries_of}
use Rattle.package_form.specs.Ids.{is_use}
use Rattle.package_form.specs.Unused.{is_alias}
use Rattle.tree_meaning.proofs.tree_forms.WeightsByName.{nodes, nodes_in, nodes_of, nodes_if, total, total-append, params-count, if-count, whole-count, val-count, Weights, sizes, Agree, by-name}
use Rattle.tree_meaning.proofs.TableRows.{name-tree, IsTyped}
use Rattle.tree_meaning.proofs.AllDefinitions.{all_from, all_of}

-- a type without a name takes one entry
abbrev pub one : Tree → ℕ
one t = 1

-- a new name of a named type is an export alone; a primitive, and each type of parts, is a definition and an export
abbrev pub type_size : Tree → ℕ
type_size (PrimTree p) = 2
type_size TextTree = 2
type_size (Reference k) = 1
type_size (ListTree t) = 2 + nodes one t
type_size (RecordTree form fs) = 2 + nodes_in one fs
type_size (VariantTree form cs) = 2 + nodes_of one cs
type_size (FlagsTree labels) = 2

-- the type entries of a definition
abbrev pub size_of : Meaning → ℕ
size_of (IsUse t) = 3
size_of (IsType t) = type_size t
size_of (IsFunction fs result) = 1 + (nodes_in one fs + nodes_if one result)

abbrev pub entries : Weights
entries = record { node = one; row = entries_of; size = size_of }

-- a type with a name has no row that is unnamed: a new name of it is an export alone
one-count : (ns : List (List ℕ)) (rows : List Definition) (t : TypeId) → is_type rows (val.Id t) ≡ true → unnamed rows (val.Id t) ≡ [] → type_size (read_val (references ns [] rows) (val.Id t)) ≡ 1
one-count ns rows t h u = by (slice_get rows t.0) refl h
  where
    named : (d : TypeDef) (m : Option TypeName) → d.name ≡ m → slice_get rows t.0 ≡ Some (row.Type d) → type_size (get_or (references ns [] rows) t.0 TextTree) ≡ 1
    named d None q e = absurd (let a : one_if (is_unnamed_row (slice_get rows t.0)) t.0 ≡ t.0 ∷ [] = ap (λ o. one_if (is_unnamed_row o) t.0) e ∙ ap (λ m. one_if (not (is_some m)) t.0) q in let b = u in cc)
    named d (Some n) q e = ap type_size (ap (λ i. get_or (references ns [] rows) i TextTree) (omega arith) ∙ name-tree ns [] rows t.0 d n e q)

    by : (o : Option Definition) → slice_get rows t.0 ≡ o → is_there (type_of o) ≡ true → type_size (get_or (references ns [] rows) t.0 TextTree) ≡ 1
    by None e h = absurd (false≢true h)
    by (Some (row.Function f)) e h = absurd (false≢true h)
    by (Some (row.Type d)) e h = named d d.name refl e

not-one : (trees : List Tree) (k : TypeDefKind) → is_use k ≡ false → is_alias k ≡ false → type_size (read_kind trees k) ≡ 1 + nodes one (read_kind trees k)
not-one trees (kind.Use t) u a = absurd (false≢true (sym u))
not-one trees (kind.Alias v) u a = absurd (false≢true (sym a))
not-one trees (kind.List v) u a = omega arith
not-one trees (kind.Option v) u a = omega arith
not-one trees (kind.Result ok error) u a = omega arith
not-one trees (kind.Tuple vs) u a = omega arith
not-one trees (kind.Record fs) u a = omega arith
not-one trees (kind.Variant cs) u a = omega arith
not-one trees (kind.Enum ns) u a = omega arith
not-one trees (kind.Flags ns) u a = refl

module _ (ns : List (List ℕ)) (rows rest : List Definition) where
  abbrev front : List Tree
  front = references ns [] rows

  abbrev final : List Tree
  final = references ns [] (rows ++ rest)

  count : (v : ValType) → is_type rows v ≡ true → nodes one (read_val front v) ≡ total one final (unnamed rows v)
  count = val-count one ns rows rest

  other : (k : TypeDefKind) → kind_all (is_type rows) k ≡ true → is_use k ≡ false → is_alias k ≡ false → type_size (read_kind front k) ≡ 2 + total one final (parts rows k)
  other k h u b = let c = whole-count one rows front final count k h u b in let t = not-one front k u b in omega (arith, c, t)

  -- a named type takes its own entries, and those of its parts
  kind-entries : (n : TypeName) (k : TypeDefKind) → kind_all (is_type rows) k ≡ true → aliased rows k ≡ [] → size_of (meaning_of front k) ≡ entries_under (Some n) k + total one final (parts rows k)
  kind-entries n (kind.Use t) h a = refl
  kind-entries n (kind.Alias (val.Primitive p)) h a = refl
  kind-entries n (kind.Alias val.String) h a = refl
  kind-entries n (kind.Alias (val.Id t)) h a = let c = one-count ns rows t h a in omega (arith, c)
  kind-entries n (kind.List v) h a = other (kind.List v) h refl refl
  kind-entries n (kind.Option v) h a = other (kind.Option v) h refl refl
  kind-entries n (kind.Result ok error) h a = other (kind.Result ok error) h refl refl
  kind-entries n (kind.Tuple vs) h a = other (kind.Tuple vs) h refl refl
  kind-entries n (kind.Record fs) h a = other (kind.Record fs) h refl refl
  kind-entries n (kind.Variant cs) h a = other (kind.Variant cs) h refl refl
  kind-entries n (kind.Enum names) h a = other (kind.Enum names) h refl refl
  kind-entries n (kind.Flags names) h a = other (kind.Flags names) h refl refl

  entries-whole : (d : Definition) → definition_all (is_type rows) d ≡ true → is_unnamed d ≡ false → aliased_by rows d ≡ []
      → sizes entries (all_of ns front d) ≡ entries_of d + total one final (parts_of rows d)
  entries-whole (row.Type d) h u a = by d.name refl
    where
      by : (m : Option TypeName) → d.name ≡ m → sizes entries (named_by ns front d.name d.kind) ≡ entries_under d.name d.kind + total one final (parts rows d.kind)
      by None e = absurd (let x = ap (λ (m : Option TypeName). not (is_some m)) e in let y = u in cc)
      by (Some n) e =
          let c = kind-entries n d.kind h a in
          ap (λ m. sizes entries (named_by ns front m d.kind)) e ∙ (let z : sizes entries (named_by ns front (Some n) d.kind) ≡ 0 + size_of (meaning_of front d.kind) = refl in z ∙ omega (arith, c))
          ∙ ap (λ m. entries_under m d.kind + total one final (parts rows d.kind)) (sym e)
  entries-whole (row.Function f) h u a =
      let t = and_parts (list_all (λ q. is_type rows q.ty) f.params) (option_all (is_type rows) f.result) h in
      let p = params-count one rows front final count f.params t.0 in
      let r = if-count one rows front final count f.result t.1 in
      let s = total-append one final (flat_map (unnamed_parameter rows) f.params) (unnamed_if rows f.result) in
      omega (arith, p, r, s)

agree : Agree entries
agree = record {
  inner = λ trees k i. refl;
  whole = λ ns rows rest d h u a. entries-whole ns rows rest d h u a;
}

-- Two tables in postfix order with the same definitions by name take the same type entries.
pub entries-by-name : (ns : List (List ℕ)) (rows : List Definition) → IsTyped rows → Leaves rows [] → sum (map entries_of rows) ≡ sizes entries (all_from ns [] rows)
entries-by-name ns rows typed p = by-name entries agree ns rows typed p
