-- What is written for a package names the packages of its imports alone.
use Rattle.std.proofs.Common.{◌≡◌, ◌<◌, ◌+◌, ℕ, zero, suc, List, [], ◌∷◌, ◌++◌, length, map, flat_map, slice_get, refl, sym, ap, subst, ◌∙◌, length-append, arith, inl, inr, All, Contains}
use Rattle.std.specs.Prelude.{Bool, true, false, Option, None, Some, cond}
use Rattle.std.proofs.lemmas.Bool.{eq-eqb, false≢true, cases_lt}
use Rattle.wit_tokens.specs.Syntax.{PathTo}
use Rattle.tables.specs.PackageNames.{PackageParts}
use Rattle.tables.specs.Package.{Tree, PrimTree, TextTree, Reference, ListTree, RecordTree, VariantTree, FlagsTree, Meaning, IsUse, IsType, IsFunction, NamedDefinition, ItemMeaning, WithInterface, WithFunction}
use Rattle.tables.specs.declared.tables.TypeName.{TypeName}
use Rattle.tables.specs.declared.tables.Definition.{Definition}
use Rattle.tables.specs.declared.tables.Interface.{Interface}
use Rattle.tables.specs.declared.tables.WorldItemKind.{WorldItemKind}
use Rattle.tables.specs.declared.tables.WorldItemKind.TheVariants as item
use Rattle.tables.specs.declared.tables.World.{World}
use Rattle.tables.specs.declared.tables.WorldItem.{WorldItem}
use Rattle.tables.specs.declared.tables.Resolve.{Resolve}
use Rattle.package_form.specs.Closed.{own_package}
use Rattle.package_form.specs.Reached.{is_interface_of, used_in, name_at}
use Rattle.package_form.specs.Form.{ids_of}
use Rattle.package_form.proofs.AllAndContains.{all-none, all-cons, all-append, flat_map-append, get-front}
use Rattle.tree_meaning.specs.Declarations.{path_packages, entry_packages, world_entry_packages, file_entry_packages, other_packages}
use Rattle.package_text.specs.Tree.{path_in, path_to, path_if, name_path, row_path, definitions_in, own_names, own_trees, use_entry, entry_by, entry_of, written_at, interface_entry, interfaces_of_package, item_path, item_entry, own_item, item_written, world_written, own_parts, file_of}
use Rattle.package_text.proofs.ResolvedTrees.TreesNameEarlierTrees.{contains-got}

use-names : (Q : PackageParts → Type 0) (p : PathTo) (t : Tree) (n : List ℕ) → All Q (path_packages p) → All Q (entry_packages (use_entry p t n))
use-names Q p (Reference k) n h = h
use-names Q p (PrimTree q) n h = all-none Q
use-names Q p TextTree n h = all-none Q
use-names Q p (ListTree t) n h = all-none Q
use-names Q p (RecordTree form fs) n h = all-none Q
use-names Q p (VariantTree form cs) n h = all-none Q
use-names Q p (FlagsTree labels) n h = all-none Q

entry-names : (Q : PackageParts → Type 0) (p : PathTo) (n : List ℕ) (m : Meaning) → All Q (path_packages p) → All Q (entry_packages (entry_by p n m))
entry-names Q p n (IsUse t) h = use-names Q p t n h
entry-names Q p n (IsType t) h = all-none Q
entry-names Q p n (IsFunction fs result) h = all-none Q

entries-name : (Q : PackageParts → Type 0) (p : PathTo) (ds : List NamedDefinition) → All Q (path_packages p) → All Q (flat_map entry_packages (map (entry_of p) ds))
entries-name Q p [] h = all-none Q
entries-name Q p (d ∷ ds) h = all-append Q (entry_packages (entry_of p d)) (flat_map entry_packages (map (entry_of p) ds)) (entry-names Q p d.key.name d.meaning h) (entries-name Q p ds h)

item-names : (Q : PackageParts → Type 0) (p : PathTo) (m : ItemMeaning) → All Q (path_packages p) → All Q (world_entry_packages (item_entry p m))
item-names Q p (WithInterface way i) h = h
item-names Q p (WithFunction way n fs result) h = all-none Q

-- where the path to each interface names such packages alone
module _ (r : Resolve) (Q : PackageParts → Type 0) (paths : (i : Interface) → All Q (path_packages (path_to r i))) where
  if-names : (o : Option Interface) → All Q (path_packages (path_if r o))
  if-names None = all-none Q
  if-names (Some i) = paths i

  name-names : (o : Option TypeName) → All Q (path_packages (name_path r o))
  name-names None = all-none Q
  name-names (Some n) = if-names (slice_get r.interfaces n.interface.0)

  row-names : (o : Option Definition) → All Q (path_packages (row_path r o))
  row-names None = all-none Q
  row-names (Some d) = name-names (name_at r.definitions (used_in d))

  rows-name : (ks : List ℕ) → All Q (flat_map entry_packages (flat_map (written_at r) ks))
  rows-name [] = all-none Q
  rows-name (k ∷ ks) =
      let o = slice_get r.definitions k in
      subst (All Q) (sym (flat_map-append entry_packages (written_at r k) (flat_map (written_at r) ks)))
      (all-append Q (flat_map entry_packages (written_at r k)) (flat_map entry_packages (flat_map (written_at r) ks))
      (entries-name Q (row_path r o) (definitions_in (own_names r) (own_trees r) o) (row-names o)) (rows-name ks))

  interfaces-name : (is : List Interface) → All Q (flat_map file_entry_packages (map (interface_entry r) is))
  interfaces-name [] = all-none Q
  interfaces-name (i ∷ is) =
      all-append Q (flat_map entry_packages (flat_map (written_at r) (ids_of i))) (flat_map file_entry_packages (map (interface_entry r) is)) (rows-name (ids_of i)) (interfaces-name is)

  kind-names : (k : WorldItemKind) → All Q (path_packages (item_path r k))
  kind-names (item.Interface i) = if-names (slice_get r.interfaces i.0)
  kind-names (item.Function f) = all-none Q

  items-name : (is : List WorldItem) → All Q (flat_map world_entry_packages (map (item_written r) is))
  items-name [] = all-none Q
  items-name (i ∷ is) =
      all-append Q (world_entry_packages (item_written r i)) (flat_map world_entry_packages (map (item_written r) is)) (item-names Q (item_path r i.kind) (own_item r i) (kind-names i.kind)) (items-name is)

  worlds-name : (ws : List World) → All Q (flat_map file_entry_packages (map (world_written r) ws))
  worlds-name [] = all-none Q
  worlds-name (w ∷ ws) =
      all-append Q (flat_map world_entry_packages (map (item_written r) w.items)) (flat_map file_entry_packages (map (world_written r) ws)) (items-name w.items) (worlds-name ws)

  tree-names : All Q (other_packages (file_of r))
  tree-names =
      subst (All Q) (sym (flat_map-append file_entry_packages (map (interface_entry r) (interfaces_of_package r)) (map (world_written r) r.worlds)))
      (all-append Q (flat_map file_entry_packages (map (interface_entry r) (interfaces_of_package r))) (flat_map file_entry_packages (map (world_written r) r.worlds))
      (interfaces-name (interfaces_of_package r)) (worlds-name r.worlds))

-- the own package stands behind those of the imports
pub paths-known : (r : Resolve) (ps : List PackageParts) → r.packages ≡ ps ++ own_parts r.packages ∷ [] → All (Contains ps) (other_packages (file_of r))
paths-known r ps e = tree-names r (Contains ps) (λ i. by i (is_interface_of (own_package r.packages) i) refl)
  where
    long : length r.packages ≡ length ps + 1
    long = ap length e ∙ length-append ps (own_parts r.packages ∷ [])

    named : (o : Option PackageParts) (i : List ℕ) → ((p : PackageParts) → o ≡ Some p → Contains ps p) → All (Contains ps) (path_packages (path_in o i))
    named None i h = all-none (Contains ps)
    named (Some p) i h = all-cons (Contains ps) p [] (h p refl) (all-none (Contains ps))

    there : (k : ℕ) (p : PackageParts) → (k ≡ own_package r.packages → ⊥) → slice_get r.packages k ≡ Some p → Contains ps p
    there k p other q = elim (cases_lt k (length ps)) [
      | inl l ↦ contains-got ps k p (sym (get-front ps (own_parts r.packages ∷ []) k l) ∙ (ap (λ (qs : List PackageParts). slice_get qs k) (sym e) ∙ q))
      | inr l ↦ absurd (let m = within r.packages k p q in other (omega (arith, l, m, long)))
    ]
      where
        within : (qs : List PackageParts) (k : ℕ) (p : PackageParts) → slice_get qs k ≡ Some p → k < length qs
        within [] k p q = absurd cc
        within (x ∷ qs) zero p q = omega arith
        within (x ∷ qs) (suc k) p q = let l = within qs k p q in omega (arith, l)

    by : (i : Interface) (b : Bool) → is_interface_of (own_package r.packages) i ≡ b → All (Contains ps) (path_packages (path_to r i))
    by i true h = subst (λ (o : Option PackageParts). All (Contains ps) (path_packages (path_in o i.name))) (sym (ap (λ (b : Bool). cond b None (slice_get r.packages i.«package».0)) h)) (all-none (Contains ps))
    by i false h =
        subst (λ (o : Option PackageParts). All (Contains ps) (path_packages (path_in o i.name))) (sym (ap (λ (b : Bool). cond b None (slice_get r.packages i.«package».0)) h))
        (named (slice_get r.packages i.«package».0) i.name (λ p q. there i.«package».0 p (λ k. false≢true (sym h ∙ eq-eqb i.«package».0 (own_package r.packages) k)) q))
