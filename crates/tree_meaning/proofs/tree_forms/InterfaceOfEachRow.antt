-- The interface that each row of a table stands in, by what the row defines.
use Rattle.std.proofs.Common.{◌≡◌, ℕ, zero, suc, ◌+◌, ◌<◌, true, false, List, [], ◌∷◌, ◌++◌, length, slice_get, Option, Some, refl, ap, sym, ◌∙◌, arith, length-append, ◌⊎◌}
use Rattle.std.specs.Prelude.{slice_index_or}
use Rattle.std.proofs.Math.Seq.{get_or-append_seam}
use Rattle.std.proofs.lemmas.List.{get_or_append_left}
use Rattle.tables.specs.Package.{Tree, TextTree, Reference, NamedDefinition, Key, IsUse, IsType, IsFunction, read_kind, meaning_of, reference, reference_by, references, TreeFields}
use Rattle.tables.specs.declared.tables.TypeId.{TypeId}
use Rattle.tables.specs.declared.tables.TypeDef.{TypeDef}
use Rattle.tables.specs.declared.tables.TypeDefKind.{TypeDefKind}
use Rattle.tables.specs.declared.tables.TypeDefKind.TheVariants as kind
use Rattle.tables.specs.declared.tables.Definition.{Definition}
use Rattle.tables.specs.declared.tables.Definition.TheVariants as row
use Rattle.package_form.specs.Postfix.{is_inner}
use Rattle.package_form.specs.Ids.{is_use}
use Rattle.package_form.specs.Form.{uses_earlier}
use Rattle.tree_meaning.proofs.ReferencesOfDefinitions.{Refers, FieldsRefer, RefersIf, tree_of}

-- the interface at place j, and no other, has this name
abbrev pub IsPlace : List (List ℕ) → ℕ → List ℕ → Type 0
IsPlace ns j i = (m : ℕ) → slice_index_or ns m [] ≡ i → m ≡ j

-- ---- what a definition of the interface at place j means

pub record MeansUse (ns : List (List ℕ)) (j : ℕ) (i : List ℕ) (x : NamedDefinition) : Type 0 where
  pub key : x.key.interface ≡ i
  pub target : Key
  pub meaning : x.meaning ≡ IsUse (Reference target)
  pub place : ℕ
  pub earlier : place < j
  pub there : IsPlace ns place target.interface

pub record MeansType (i : List ℕ) (x : NamedDefinition) : Type 0 where
  pub key : x.key.interface ≡ i
  pub tree : Tree
  pub meaning : x.meaning ≡ IsType tree
  pub refers : Refers i tree

pub record MeansFunction (i : List ℕ) (x : NamedDefinition) : Type 0 where
  pub key : x.key.interface ≡ i
  pub params : TreeFields
  pub result : Option Tree
  pub meaning : x.meaning ≡ IsFunction params result
  pub params_refer : FieldsRefer i params
  pub result_refers : RefersIf i result

abbrev pub MeansAny : List (List ℕ) → ℕ → List ℕ → NamedDefinition → Type 0
MeansAny ns j i x = MeansUse ns j i x ⊎ (MeansType i x ⊎ MeansFunction i x)

-- ---- kinds

pub use-kind : (trees : List Tree) (k : TypeDefKind) (tree : Tree) → meaning_of trees k ≡ IsUse tree → (t : TypeId) × (k ≡ kind.Use t) × (tree_of trees t ≡ tree)
use-kind trees (kind.Use t) tree e = (t, refl, cc)
use-kind trees (kind.Alias v) tree e = absurd (cc)
use-kind trees (kind.List v) tree e = absurd (cc)
use-kind trees (kind.Option v) tree e = absurd (cc)
use-kind trees (kind.Result ok error) tree e = absurd (cc)
use-kind trees (kind.Tuple vs) tree e = absurd (cc)
use-kind trees (kind.Record fs) tree e = absurd (cc)
use-kind trees (kind.Variant cs) tree e = absurd (cc)
use-kind trees (kind.Enum ns) tree e = absurd (cc)
use-kind trees (kind.Flags ns) tree e = absurd (cc)

pub type-kind : (trees : List Tree) (k : TypeDefKind) (tree : Tree) → meaning_of trees k ≡ IsType tree → (is_use k ≡ false) × (read_kind trees k ≡ tree)
type-kind trees (kind.Use t) tree e = absurd (cc)
type-kind trees (kind.Alias v) tree e = (refl, cc)
type-kind trees (kind.List v) tree e = (refl, cc)
type-kind trees (kind.Option v) tree e = (refl, cc)
type-kind trees (kind.Result ok error) tree e = (refl, cc)
type-kind trees (kind.Tuple vs) tree e = (refl, cc)
type-kind trees (kind.Record fs) tree e = (refl, cc)
type-kind trees (kind.Variant cs) tree e = (refl, cc)
type-kind trees (kind.Enum ns) tree e = (refl, cc)
type-kind trees (kind.Flags ns) tree e = (refl, cc)

pub no-function : (trees : List Tree) (k : TypeDefKind) (fs : TreeFields) (r : Option Tree) → meaning_of trees k ≡ IsFunction fs r → ⊥
no-function trees (kind.Use t) fs r e = absurd (cc)
no-function trees (kind.Alias v) fs r e = absurd (cc)
no-function trees (kind.List v) fs r e = absurd (cc)
no-function trees (kind.Option v) fs r e = absurd (cc)
no-function trees (kind.Result ok error) fs r e = absurd (cc)
no-function trees (kind.Tuple vs) fs r e = absurd (cc)
no-function trees (kind.Record fields) fs r e = absurd (cc)
no-function trees (kind.Variant cs) fs r e = absurd (cc)
no-function trees (kind.Enum ns) fs r e = absurd (cc)
no-function trees (kind.Flags ns) fs r e = absurd (cc)

-- a kind that can stand without a name is no use, and reads as no reference
pub inner-use : (k : TypeDefKind) → is_inner k ≡ true → is_use k ≡ false
inner-use (kind.Use t) h = absurd (cc)
inner-use (kind.Alias v) h = refl
inner-use (kind.List v) h = refl
inner-use (kind.Option v) h = refl
inner-use (kind.Result ok error) h = refl
inner-use (kind.Tuple vs) h = refl
inner-use (kind.Record fs) h = refl
inner-use (kind.Variant cs) h = refl
inner-use (kind.Enum ns) h = refl
inner-use (kind.Flags ns) h = refl

pub inner-reads : (trees : List Tree) (k : TypeDefKind) (x : Key) → is_inner k ≡ true → read_kind trees k ≡ Reference x → ⊥
inner-reads trees (kind.Use t) x h e = absurd (cc)
inner-reads trees (kind.Alias v) x h e = absurd (cc)
inner-reads trees (kind.List v) x h e = absurd (cc)
inner-reads trees (kind.Option v) x h e = absurd (cc)
inner-reads trees (kind.Result ok error) x h e = absurd (cc)
inner-reads trees (kind.Tuple vs) x h e = absurd (cc)
inner-reads trees (kind.Record fs) x h e = absurd (cc)
inner-reads trees (kind.Variant cs) x h e = absurd (cc)
inner-reads trees (kind.Enum ns) x h e = absurd (cc)
inner-reads trees (kind.Flags ns) x h e = absurd (cc)

pub not-use : (rows : List Definition) (j : ℕ) (k : TypeDefKind) → is_use k ≡ false → uses_earlier rows j k ≡ true
not-use rows j (kind.Use t) h = absurd (cc)
not-use rows j (kind.Alias v) h = refl
not-use rows j (kind.List v) h = refl
not-use rows j (kind.Option v) h = refl
not-use rows j (kind.Result ok error) h = refl
not-use rows j (kind.Tuple vs) h = refl
not-use rows j (kind.Record fs) h = refl
not-use rows j (kind.Variant cs) h = refl
not-use rows j (kind.Enum ns) h = refl
not-use rows j (kind.Flags ns) h = refl

-- ---- the tree of a row

module _ (ns : List (List ℕ)) where
  pub trees-kept : (trees : List Tree) (ds : List Definition) (n : ℕ) → n < length trees → slice_index_or (references ns trees ds) n TextTree ≡ slice_index_or trees n TextTree
  trees-kept trees [] n l = refl
  trees-kept trees (d ∷ ds) n l =
      trees-kept (trees ++ reference ns trees d ∷ []) ds n (grind (arith, length-append)) ∙ get_or_append_left trees (reference ns trees d ∷ []) TextTree n l

  -- the row's name, or what it reads as
  pub tree-at : (trees : List Tree) (ds : List Definition) (n : ℕ) (d : TypeDef) → slice_get ds n ≡ Some (row.Type d)
      → (before : List Tree) × (slice_index_or (references ns trees ds) (length trees + n) TextTree ≡ reference_by ns d.name (read_kind before d.kind))
  tree-at trees [] n d e = absurd (cc)
  tree-at trees (c ∷ ds) zero d e =
      let is : c ≡ row.Type d = cc in
      let x = reference ns trees c in (
        trees,
        trees-kept (trees ++ x ∷ []) ds (length trees + 0) (grind (arith, length-append))
            ∙ ap (λ (k : ℕ). slice_index_or (trees ++ x ∷ []) k TextTree) (omega arith)
            ∙ get_or-append_seam trees x [] TextTree ∙ ap (reference ns trees) is,
      )
  tree-at trees (c ∷ ds) (suc n) d e =
      let x = reference ns trees c in
      let again = tree-at (trees ++ x ∷ []) ds n d e in
      let same : length (trees ++ x ∷ []) + n ≡ length trees + suc n = omega (arith, length-append trees (x ∷ [])) in
      (again.0, ap (λ (k : ℕ). slice_index_or (references ns (trees ++ x ∷ []) ds) k TextTree) (sym same) ∙ again.1)
