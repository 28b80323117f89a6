-- Which interfaces the rows and the worlds of a table reach, by what they mean.
use Rattle.std.proofs.Common.{◌≡◌, ◌≢◌, ◌+◌, ℕ, true, List, [], ◌∷◌, ◌++◌, map, flat_map, length, slice_get, get_or, Option, None, Some, refl, ap, sym, ◌∙◌, subst, arith, Contains, inl, inr}
use Rattle.std.specs.List.{list_all}
use Rattle.std.proofs.lemmas.Bool.{ltb-true}
use Rattle.tables.specs.Tables.{type_of, function_of, is_type, definition_all, definition_below, are_earlier}
use Rattle.tables.specs.Package.{Tree, Reference, Key, IsUse, NamedDefinition, WithInterface, WorldMeaning, key_of, meaning_of, named_by, reference, references, function_item, item_meaning, world_meaning}
use Rattle.tables.specs.declared.tables.Direction.{Direction}
use Rattle.tables.specs.declared.tables.Function.{Function}
use Rattle.tables.specs.declared.tables.TypeId.{TypeId}
use Rattle.tables.specs.declared.tables.TypeDef.{TypeDef}
use Rattle.tables.specs.declared.tables.TypeDefKind.{TypeDefKind}
use Rattle.tables.specs.declared.tables.TypeDefKind.TheVariants as kind
use Rattle.tables.specs.declared.tables.TypeName.{TypeName}
use Rattle.tables.specs.declared.tables.Definition.{Definition}
use Rattle.tables.specs.declared.tables.Definition.TheVariants as row
use Rattle.tables.specs.declared.tables.WorldItemKind.{WorldItemKind}
use Rattle.tables.specs.declared.tables.WorldItemKind.TheVariants as item
use Rattle.tables.specs.declared.tables.WorldItem.{WorldItem}
use Rattle.tables.specs.declared.tables.World.{World}
use Rattle.package_form.specs.Reached.{used_in, name_of, name_at, named_interface, reached_by_row, reached_by_kind, reached_by_item, reached_by_world, reached}
use Rattle.package_form.proofs.AllAndContains.{contains-here, contains-left, contains-right, contains-either, contains-unmap, contains-flat}
use Rattle.tree_meaning.proofs.NamesOfScopeAreApart.{only}
use Rattle.tree_meaning.proofs.AllDefinitions.{all_of, all_from, any_function}
use Rattle.tree_meaning.proofs.TableRows.{below-at, at-true, get-some}
use Rattle.tree_meaning.proofs.tree_forms.RowsStandWhereDefined.{IsTable}
use Rattle.tree_meaning.proofs.tree_forms.InterfaceOfEachRow.{IsPlace, use-kind}
use Rattle.tree_meaning.proofs.tree_forms.RowsReferToOwnTypes.{name-there}
use Rattle.tree_meaning.proofs.ReferencesOfDefinitions.{tree_of}

contains-unflat : {A B : Type 0} (f : A → List B) (xs : List A) (y : B) → Contains (flat_map f xs) y → (x : A) × Contains xs x × Contains (f x) y
contains-unflat f [] y c = absurd (omega (arith, c.1))
contains-unflat f (x ∷ xs) y c = elim (contains-either (f x) (flat_map f xs) y c) [
  | inl h ↦ (x, contains-here x xs, h)
  | inr h ↦ let r = contains-unflat f xs y h in (r.0, contains-right (x ∷ []) xs r.0 r.1, r.2)
]

-- ---- the row of a definition

pub record DefinedBy (ns : List (List ℕ)) (trees : List Tree) (ds : List Definition) (x : NamedDefinition) : Type 0 where
  pub pre : List Definition
  pub definition : Definition
  pub post : List Definition
  pub parts : ds ≡ pre ++ definition ∷ post
  pub defines : Contains (all_of ns (references ns trees pre) definition) x

pub defined-by : (ns : List (List ℕ)) (trees : List Tree) (ds : List Definition) (x : NamedDefinition) → Contains (all_from ns trees ds) x → DefinedBy ns trees ds x
defined-by ns trees [] x c = absurd (omega (arith, c.1))
defined-by ns trees (d ∷ ds) x c = elim (contains-either (all_of ns trees d) (all_from ns (trees ++ reference ns trees d ∷ []) ds) x c) [
  | inl h ↦ record { pre = []; definition = d; post = ds; parts = refl; defines = h }
  | inr h ↦
      let r = defined-by ns (trees ++ reference ns trees d ∷ []) ds x h in
      record { pre = d ∷ r.pre; definition = r.definition; post = r.post; parts = ap (λ (es : List Definition). d ∷ es) r.parts; defines = r.defines }
]

-- the row of a use
record IsUseOf (trees : List Tree) (d : Definition) (target : Key) : Type 0 where
  pub type : TypeDef
  pub id : TypeId
  pub is : d ≡ row.Type type
  pub uses : type.kind ≡ kind.Use id
  pub reads : tree_of trees id ≡ Reference target

use-row : (ns : List (List ℕ)) (trees : List Tree) (d : Definition) (x : NamedDefinition) (target : Key) → Contains (all_of ns trees d) x → x.meaning ≡ IsUse (Reference target) → IsUseOf trees d target
use-row ns trees (row.Function f) x target c e = let m = ap (λ (y : NamedDefinition). y.meaning) (only (any_function ns trees f) x c) ∙ e in absurd (cc)
use-row ns trees (row.Type d) x target c e = by d.name c
  where
    by : (o : Option TypeName) → Contains (named_by ns trees o d.kind) x → IsUseOf trees (row.Type d) target
    by None q = absurd (omega (arith, q.1))
    by (Some n) q =
        let m : meaning_of trees d.kind ≡ IsUse (Reference target) = ap (λ (y : NamedDefinition). y.meaning) (only (record { key = key_of ns n; meaning = meaning_of trees d.kind }) x q) ∙ e in
        let u = use-kind trees d.kind (Reference target) m in
        record { type = d; id = u.0; is = refl; uses = u.1; reads = u.2 }

module _ (ns : List (List ℕ)) (rows : List Definition) (table : IsTable rows) where
  -- a use reaches the interface that it is of
  pub use-reaches : (pre : List Definition) (d : Definition) (post : List Definition) (x : NamedDefinition) (target : Key) (m : ℕ) → rows ≡ pre ++ d ∷ post
      → Contains (all_of ns (references ns [] pre) d) x → x.meaning ≡ IsUse (Reference target) → IsPlace ns m target.interface → Contains (flat_map (reached_by_row rows) rows) m
  use-reaches pre d post x target m e c means place =
      let u = use-row ns (references ns [] pre) d x target c means in
      let same : d ≡ row.Type (record { name = u.type.name; kind = kind.Use u.id }) = u.is ∙ ap (λ (k : TypeDefKind). row.Type (record { name = u.type.name; kind = k })) u.uses in
      let below = subst (λ (k : ℕ). definition_below k d ≡ true) (let z : 0 + length pre ≡ length pre = omega arith in z)
      (below-at 0 pre d post (subst (λ (xs : List Definition). are_earlier 0 xs ≡ true) e table.earlier)) in
      let typed = at-true (definition_all (is_type rows)) pre d post (subst (λ (xs : List Definition). list_all (definition_all (is_type rows)) xs ≡ true) e table.typed) in
      let less = ltb-true u.id.0 (length pre) (subst (λ (y : Definition). definition_below (length pre) y ≡ true) same below) in
      let n = name-there ns rows pre (d ∷ post) e table.inner u.id target m less (subst (λ (y : Definition). definition_all (is_type rows) y ≡ true) same typed) u.reads place in
      let reaches : reached_by_row rows d ≡ m ∷ [] =
      ap (reached_by_row rows) same ∙ ap named_interface n.1 ∙ ap (λ (k : ℕ). k ∷ []) n.2 in
      let there : Contains rows d = subst (λ (xs : List Definition). Contains xs d) (sym e) (contains-right pre (d ∷ post) d (contains-here d post)) in
      contains-flat (reached_by_row rows) rows d m there (subst (λ (ks : List ℕ). Contains ks m) (sym reaches) (contains-here m []))

  -- so does an item of a world
  pub item-reaches : (trees : List Tree) (ws : List World) (name : World → List ℕ) (w : WorldMeaning) (way : Direction) (i : List ℕ) (m : ℕ) → i ≢ []
      → Contains (map (λ v. world_meaning ns trees rows (name v) v) ws) w → Contains w.items (WithInterface way i) → IsPlace ns m i → Contains (flat_map reached_by_world ws) m
  item-reaches trees ws name w way i m some c d place =
      let v = contains-unmap (λ (v : World). world_meaning ns trees rows (name v) v) ws w c in
      let items = subst (λ (y : WorldMeaning). Contains y.items (WithInterface way i)) (sym v.2) d in
      let x = contains-unmap (λ (y : WorldItem). item_meaning ns trees rows y.direction y.kind) v.0.items (WithInterface way i) items in
      contains-flat reached_by_world ws v.0 m v.1 (contains-flat reached_by_item v.0.items x.0 m x.1 (by x.0.direction x.0.kind x.2))
    where
      none : (o : Option Function) (to : Direction) → function_item trees to o ≡ WithInterface way i → ⊥
      none None to e = some (let is : [] ≡ i = cc in sym is)
      none (Some f) to e = absurd (cc)

      by : (to : Direction) (k : WorldItemKind) → item_meaning ns trees rows to k ≡ WithInterface way i → Contains (reached_by_kind k) m
      by to (item.Interface j) e =
          let is : get_or ns j.0 [] ≡ i = cc in
          subst (λ (k : ℕ). Contains (j.0 ∷ []) k) (place j.0 is) (contains-here j.0 [])
      by to (item.Function f) e = absurd (none (function_of (slice_get rows f.0)) to e)

-- ---- rows, when more come behind them

module _ (rows more : List Definition) where
  row-kept : (d : Definition) (k : ℕ) → Contains (reached_by_row rows d) k → Contains (reached_by_row (rows ++ more) d) k
  row-kept d k c = by (used_in d) c
    where
      at : (t : TypeId) (o : Option Definition) → slice_get rows t.0 ≡ o → Contains (named_interface (name_of (type_of o))) k → Contains (named_interface (name_at (rows ++ more) (Some t))) k
      at t None e q = absurd (omega (arith, q.1))
      at t (Some y) e q = subst (λ (o : Option Definition). Contains (named_interface (name_of (type_of o))) k) (sym (get-some rows more t.0 y e)) q

      by : (o : Option TypeId) → Contains (named_interface (name_at rows o)) k → Contains (named_interface (name_at (rows ++ more) o)) k
      by None q = absurd (omega (arith, q.1))
      by (Some t) q = at t (slice_get rows t.0) refl q

  -- they reach what they reached
  pub reached-kept : (k : ℕ) → Contains (reached rows []) k → Contains (flat_map (reached_by_row (rows ++ more)) (rows ++ more)) k
  reached-kept k c = elim (contains-either (flat_map (reached_by_row rows) rows) [] k c) [
    | inl h ↦
        let x = contains-unflat (reached_by_row rows) rows k h in
        contains-flat (reached_by_row (rows ++ more)) (rows ++ more) x.0 k (contains-left rows more x.0 x.1) (row-kept x.0 k x.2)
    | inr h ↦ absurd (omega (arith, h.1))
  ]
