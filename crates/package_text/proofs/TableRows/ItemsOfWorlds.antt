-- The worlds of a table: their items are interfaces of the table, and functions that name no type.
use Rattle.std.proofs.Common.{◌≡◌, ◌+◌, ◌<◌, ◌≤◌, ℕ, suc, List, [], ◌∷◌, ◌++◌, length, map, filter_map, get_or, slice_get, refl, sym, ap, subst, ◌∙◌, append_assoc, length-append, arith, All}
use Rattle.std.specs.Prelude.{Bool, true, false, not, nat_lt, Option, None, Some, is_some}
use Rattle.std.specs.List.{list_all}
use Rattle.std.proofs.lemmas.Bool.{and_parts, false≢true, ltb-true, ltb-false}
use Rattle.tables.specs.Tables.{are_earlier, function_of, is_owner_world, is_function_of, is_placed_item, is_placed_world, are_placed_worlds}
use Rattle.tables.specs.Package.{Meaning, IsUse, IsType, IsFunction, function_meaning, function_item, references, item_meaning}
use Rattle.tables.specs.declared.tables.Direction.{Direction}
use Rattle.tables.specs.declared.tables.TypeName.{TypeName}
use Rattle.tables.specs.declared.tables.Owner.{Owner}
use Rattle.tables.specs.declared.tables.Owner.TheVariants as owner
use Rattle.tables.specs.declared.tables.Function.{Function}
use Rattle.tables.specs.declared.tables.Definition.{Definition}
use Rattle.tables.specs.declared.tables.Definition.TheVariants as row
use Rattle.tables.specs.declared.tables.WorldItemKind.{WorldItemKind}
use Rattle.tables.specs.declared.tables.WorldItemKind.TheVariants as item
use Rattle.tables.specs.declared.tables.WorldItem.{WorldItem}
use Rattle.tables.specs.declared.tables.World.{World}
use Rattle.tables.specs.declared.tables.Interface.{Interface}
use Rattle.tables.specs.declared.tables.Resolve.{Resolve}
use Rattle.package_form.specs.Ids.{is_of_worlds, is_world_function}
use Rattle.package_form.specs.Form.{is_local, IsInPackageForm}
use Rattle.package_form.proofs.AllAndContains.{all-none, all-cons, all-head, all-get}
use Rattle.tree_meaning.specs.Declarations.{world_of, file_worlds, item_tree, names_in_function}
use Rattle.wit_tokens.specs.Syntax.{Whole}
use Rattle.wit_tokens.specs.declared.wit_syntax.ast.Direction.{Direction as Way}
use Rattle.tree_meaning.specs.Imports.{Imports}
use Rattle.tree_meaning.specs.Resolves.{IsKnownItemOf, IsKnownWorldOf}
use Rattle.package_text.specs.Tree.{function_by}
use Rattle.package_text.specs.Written.{direction_for}
use Rattle.package_text.specs.Tree.{own_names, own_trees, own_item}
use Rattle.package_text.proofs.WrittenTrees.PathsSpelledByNames.{path_named}
use Rattle.package_text.proofs.WrittenTrees.TreeByNames.{item_entry, world_entry, file_of}
use Rattle.package_text.proofs.TableRows.RowsReadByEarlierRows.{row-below, function-front}
use Rattle.package_text.proofs.TableRows.RowsReadAsTrees.{IsNamed, IsOwned, parts-ready}
use Rattle.package_text.proofs.TableRows.DefinitionsByInterface.{leaves-at}
use Rattle.package_text.proofs.TableRows.RowsNameEarlierRows.{function-told}
use Rattle.package_text.proofs.ResolvedTrees.TreesNameEarlierTrees.{home-here}
use Rattle.package_text.proofs.TableRows.AreRegions.{AreRegions, no_region, and_region, home}
use Rattle.package_text.proofs.TableRows.RowsAreLocal.{inside, rows-owned, local-unworldly}
use Rattle.package_text.proofs.WrittenTrees.PartsOfInterfaces.{stands-at}
use Rattle.package_text.proofs.TableRows.OwnInterfacesBegin.{form-regions}
use Rattle.package_text.proofs.ResolvedTrees.TreeResolvesToPackage.{tree-worlds}
use Rattle.package_text.proofs.PrintableTrees.RowsHaveTexts.{regions-homes}

-- a function of a world stands behind the rows of all interfaces
pub regions-behind : (rows : List Definition) (at : ℕ → ℕ) (k : ℕ) (pre : List Definition) (is : List Interface) (post : List Definition) → AreRegions rows at k pre is post → rows ≡ pre ++ post
    → (front : List Definition) (d : Definition) (rest : List Definition) → rows ≡ front ++ d ∷ rest → length pre ≤ length front → is_world_function d ≡ true → at (length front) ≡ k + length is
regions-behind rows at _ _ _ _ (no_region k pre back behind home) e front d rest f l h = home (length front) l ∙ omega arith
regions-behind rows at _ _ _ _ (and_region k pre own post i is ends ids uses types locals here more) e front d rest f l h =
    by (nat_lt (length front) (length (pre ++ own))) refl (λ m. regions-behind rows at (suc k) (pre ++ own) is post more (e ∙ sym (append_assoc pre own post)) front d rest f m h)
  where
    by : (b : Bool) → nat_lt (length front) (length (pre ++ own)) ≡ b → (length (pre ++ own) ≤ length front → at (length front) ≡ suc k + length is) → at (length front) ≡ k + length (i ∷ is)
    by true u on =
        let x = inside pre own post front d rest (sym e ∙ f) l (let a = length-append pre own in omega (arith, ltb-true (length front) (length (pre ++ own)) u, a)) in
        absurd (false≢true (sym (ap not h) ∙ local-unworldly rows k d (all-get (is_local rows k) own x.0 d locals x.1)))
    by false u on = on (ltb-false (length front) (length (pre ++ own)) u) ∙ omega arith

pub owner-of-world : (w : ℕ) (o : Owner) → is_owner_world w o ≡ true → is_of_worlds o ≡ true
owner-of-world w (owner.Interface i) q = q
owner-of-world w (owner.World v) q = refl

nothing-known : (K : List ℕ → Type 0) (ns : List (List ℕ)) → ((n : List ℕ) → K n → ⊥) → All K ns → ns ≡ []
nothing-known K [] none h = refl
nothing-known K (n ∷ ns) none h = absurd (none n (all-head K n ns h))

-- the names in what is written for a function
abbrev names_of : Meaning → List (List ℕ)
names_of (IsUse t) = []
names_of (IsType t) = []
names_of (IsFunction fs result) = names_in_function (function_by fs result)

module _ (r : Resolve) (f : IsInPackageForm r) where
  abbrev ns : List (List ℕ)
  ns = own_names r

  abbrev at : ℕ → ℕ
  at = home 0 0 r.interfaces

  -- a function of a world names no type
  names-none : (front : List Definition) (g : Function) (rest : List Definition) → r.definitions ≡ front ++ row.Function g ∷ rest → is_of_worlds g.owner ≡ true
      → names_of (function_meaning (own_trees r) g) ≡ []
  names-none front g rest e world =
      let regions = form-regions r f in
      let o = rows-owned (own_names r) r.definitions (home 0 0 r.interfaces) r.interfaces r.earlier f.postfix regions in
      let k = home 0 0 r.interfaces (length front) in
      let behind = regions-behind r.definitions (home 0 0 r.interfaces) 0 [] r.interfaces r.definitions regions refl front (row.Function g) rest e (omega arith) world in
      let told = function-told (own_names r) front k g (o.local front (row.Function g) rest e)
      (parts-ready (own_names r) r.definitions (home 0 0 r.interfaces) o front (row.Function g) (leaves-at r.definitions [] f.postfix front (row.Function g) rest e refl).0 rest e) in
      let below = row-below front (row.Function g) rest (subst (λ (ds : List Definition). are_earlier 0 ds ≡ true) e r.earlier) in
      let same : function_meaning (own_trees r) g ≡ function_meaning (references (own_names r) [] front) g =
      ap (λ (ds : List Definition). function_meaning (references (own_names r) [] ds) g) e ∙ function-front (own_names r) front (row.Function g ∷ rest) g below in
      ap names_of same ∙ nothing-known (IsNamed front k) (names_of (function_meaning (references (own_names r) [] front) g)) (none behind o) told
    where
      none : home 0 0 r.interfaces (length front) ≡ 0 + length r.interfaces → IsOwned (own_names r) r.definitions (home 0 0 r.interfaces) → (n : List ℕ) → IsNamed front (home 0 0 r.interfaces (length front)) n → ⊥
      none behind o n (t, d, m, s, q, i, same) =
          let x = home-here (own_names r) r.definitions (home 0 0 r.interfaces) o f.postfix front (row.Function g ∷ rest) t d m e s q in
          let y = stands-at front t (row.Type d) s in
          let flat : r.definitions ≡ y.0 ++ row.Type d ∷ (y.1 ++ row.Function g ∷ rest) =
          e ∙ (ap (λ (ds : List Definition). ds ++ row.Function g ∷ rest) y.2 ∙ append_assoc y.0 (row.Type d ∷ y.1) (row.Function g ∷ rest)) in
          let l = regions-homes r.definitions (home 0 0 r.interfaces) 0 [] r.interfaces r.definitions (form-regions r f) refl y.0 (row.Type d) (y.1 ++ row.Function g ∷ rest) flat (omega arith)
          (ap (λ (a : Option TypeName). not (is_some a)) q) in
          let here = ap (home 0 0 r.interfaces) y.3 in
          omega (arith, l, here, x.0, i, behind)

  module _ (m : Imports) (names : List (List ℕ)) (there : (d : Way) (j : ℕ) → j < length r.interfaces → IsKnownItemOf m names (item_tree (Whole d (path_named (get_or (own_names r) j []))))) where
    item-known : (w : ℕ) (way : Direction) (i : WorldItemKind) → is_placed_item r.definitions (length r.interfaces) w i ≡ true
        → IsKnownItemOf m names (item_tree (item_entry (item_meaning (own_names r) (own_trees r) r.definitions way i)))
    item-known w way (item.Interface j) h = there (direction_for way) j.0 (ltb-true j.0 (length r.interfaces) h)
    item-known w way (item.Function c) h = by (slice_get r.definitions c.0) refl h
      where
        by : (d : Option Definition) → slice_get r.definitions c.0 ≡ d → is_function_of w (function_of d) ≡ true → IsKnownItemOf m names (item_tree (item_entry (function_item (own_trees r) way (function_of d))))
        by None e q = absurd (false≢true q)
        by (Some (row.Type d)) e q = absurd (false≢true q)
        by (Some (row.Function g)) e q =
            let x = stands-at r.definitions c.0 (row.Function g) e in names-none x.0 g x.1 x.2 (owner-of-world w g.owner q)

    items-known : (w : ℕ) (is : List WorldItem) → list_all (λ i. is_placed_item r.definitions (length r.interfaces) w i.kind) is ≡ true
        → All (IsKnownItemOf m names) (map item_tree (map (λ i. item_entry (own_item r i)) is))
    items-known w [] h = all-none (IsKnownItemOf m names)
    items-known w (i ∷ is) h =
        let t = and_parts (is_placed_item r.definitions (length r.interfaces) w i.kind) (list_all (λ i. is_placed_item r.definitions (length r.interfaces) w i.kind) is) h in
        all-cons (IsKnownItemOf m names) _ _ (item-known w i.direction i.kind t.0) (items-known w is t.1)

    worlds-known : (w : ℕ) (ws : List World) → are_placed_worlds r.definitions (length r.interfaces) w ws ≡ true → All (IsKnownWorldOf m names) (filter_map world_of (map (world_entry r) ws))
    worlds-known w [] h = all-none (IsKnownWorldOf m names)
    worlds-known w (x ∷ xs) h =
        let t = and_parts (is_placed_world r.definitions (length r.interfaces) w x) (are_placed_worlds r.definitions (length r.interfaces) (w + 1) xs) h in
        all-cons (IsKnownWorldOf m names) _ _ (items-known w x.items t.0) (worlds-known (w + 1) xs t.1)

    -- the worlds of the tree name interfaces that are known, and no types
    pub tree-worlds-known : All (IsKnownWorldOf m names) (file_worlds (file_of r))
    tree-worlds-known = subst (All (IsKnownWorldOf m names)) (sym (tree-worlds r)) (worlds-known 0 r.worlds r.worlds_placed)
