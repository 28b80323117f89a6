-- What is written for single rows, for the rows of an interface, and for the items of a world.
use Rattle.std.proofs.Common.{◌≡◌, ◌+◌, ◌<◌, ℕ, List, [], ◌∷◌, ◌++◌, map, flat_map, length, take, get_or, slice_get, refl, sym, ap, subst, ◌∙◌, append_assoc, append-nil, Option, None, Some}
use Rattle.std.specs.Prelude.{true}
use Rattle.std.specs.List.{list_all}
use Rattle.std.proofs.lemmas.List.{map-append}
use Rattle.std.proofs.lemmas.List.Folds.{flat_map-map}
use Rattle.std.proofs.lemmas.Bool.{false≢true}
use Rattle.wit_tokens.specs.Syntax.{Entry, Uses}
use Rattle.wit_tokens.specs.View.{entry_view}
use Rattle.wit_tokens.specs.declared.wit_syntax.ast.InterfaceItem.{InterfaceItem}
use Rattle.wit_print.specs.Unplaced.{nowhere}
use Rattle.tables.specs.Tables.{function_of, is_there, is_function_of, is_placed_item, is_placed_world, are_placed_worlds}
use Rattle.tables.specs.Package.{Tree, Reference, key_of, read_val, named_by, named_function, function_meaning, meaning_of}
use Rattle.tables.specs.declared.tables.TypeId.{TypeId}
use Rattle.tables.specs.declared.tables.FunctionId.{FunctionId}
use Rattle.tables.specs.declared.tables.InterfaceId.{InterfaceId}
use Rattle.tables.specs.declared.tables.WorldId.{WorldId}
use Rattle.tables.specs.declared.tables.TypeName.{TypeName}
use Rattle.tables.specs.declared.tables.TypeDef.{TypeDef}
use Rattle.tables.specs.declared.tables.ValType.TheVariants as val
use Rattle.tables.specs.declared.tables.Owner.{Owner}
use Rattle.tables.specs.declared.tables.Owner.TheVariants as owner
use Rattle.tables.specs.declared.tables.Function.{Function}
use Rattle.tables.specs.declared.tables.Definition.{Definition}
use Rattle.tables.specs.declared.tables.Definition.TheVariants as row
use Rattle.tables.specs.declared.tables.Interface.{Interface}
use Rattle.tables.specs.declared.tables.WorldItemKind.{WorldItemKind}
use Rattle.tables.specs.declared.tables.WorldItemKind.TheVariants as item
use Rattle.tables.specs.declared.tables.World.{World}
use Rattle.tables.specs.declared.tables.Resolve.{Resolve}
use Rattle.tables.proofs.ClosedTypesRowByRow.{split, both}
use Rattle.package_form.specs.Reached.{used_by, name_at}
use Rattle.package_form.specs.Form.{ids_of}
use Rattle.package_form.proofs.AllAndContains.{flat_map-append, list-grows}
use Rattle.package_form.proofs.NamesMetOneByOne.{split-at}
use Rattle.tree_meaning.proofs.TableRows.{at-true}
use Rattle.package_text.specs.Tree.{path_at, name_path, row_path, own_names, own_trees, local_of, use_entry, entry_by, entry_of, row_entries, written_at}
use Rattle.package_text.specs.Pieces.{is_item}
use Rattle.package_text.proofs.TableRows.RowsStandForTrees.{name-at}

-- a used name, by the path to its interface
pub use-written : (r : Resolve) (t : TypeId) (n : TypeName) (l : List ℕ) → name_at r.definitions (Some t) ≡ Some n
    → use_entry (name_path r (name_at r.definitions (Some t))) (read_val (own_trees r) (val.Id t)) l ≡ Uses nowhere (path_at r n.interface.0) (record { name = n.name; local = local_of n.name l } ∷ [])
use-written r t n l h = ap (λ (x : Tree). use_entry (name_path r (name_at r.definitions (Some t))) x l) (name-at r t.0 n h)
    ∙ ap (λ (m : Option TypeName). use_entry (name_path r m) (Reference (key_of (own_names r) n)) l) h

module _ (r : Resolve) (k : ℕ) where
  by-row : (o : Option Definition) → slice_get r.definitions k ≡ o → written_at r k ≡ row_entries r o
  by-row o e = ap (row_entries r) e

  pub no-entries : slice_get r.definitions k ≡ None → written_at r k ≡ []
  no-entries e = by-row None e

  pub unnamed-entries : (d : TypeDef) → slice_get r.definitions k ≡ Some (row.Type d) → d.name ≡ None → written_at r k ≡ []
  unnamed-entries d e q = by-row (Some (row.Type d)) e ∙ ap (λ o. map (entry_of (row_path r (Some (row.Type d)))) (named_by (own_names r) (own_trees r) o d.kind)) q

  pub type-entries : (d : TypeDef) (n : TypeName) → slice_get r.definitions k ≡ Some (row.Type d) → d.name ≡ Some n
      → written_at r k ≡ entry_by (name_path r (name_at r.definitions (used_by d.kind))) n.name (meaning_of (own_trees r) d.kind) ∷ []
  type-entries d n e q = by-row (Some (row.Type d)) e ∙ ap (λ o. map (entry_of (row_path r (Some (row.Type d)))) (named_by (own_names r) (own_trees r) o d.kind)) q

  by-owner : (f : Function) (o : Owner) → slice_get r.definitions k ≡ Some (row.Function f) → f.owner ≡ o
      → written_at r k ≡ map (entry_of (name_path r None)) (named_function (own_names r) o f.name (function_meaning (own_trees r) f))
  by-owner f o e q = by-row (Some (row.Function f)) e ∙ ap (λ x. map (entry_of (name_path r None)) (named_function (own_names r) x f.name (function_meaning (own_trees r) f))) q

  pub function-entries : (f : Function) (i : InterfaceId) → slice_get r.definitions k ≡ Some (row.Function f) → f.owner ≡ owner.Interface i
      → written_at r k ≡ entry_by (name_path r None) f.name (function_meaning (own_trees r) f) ∷ []
  function-entries f i e q = by-owner f (owner.Interface i) e q

  pub world-entries : (f : Function) (w : WorldId) → slice_get r.definitions k ≡ Some (row.Function f) → f.owner ≡ owner.World w → written_at r k ≡ []
  world-entries f w e q = by-owner f (owner.World w) e q

-- ---- items that are appended, or not

pub pushed : (old new : List InterfaceItem) (x : InterfaceItem) (e : Entry) (es : List Entry) → new ≡ old ++ x ∷ [] → entry_view x ≡ e → es ≡ e ∷ [] → map entry_view new ≡ map entry_view old ++ es
pushed old new x e es p q h =
    ap (map entry_view) p ∙ map-append entry_view old (x ∷ []) ∙ ap (λ (y : Entry). map entry_view old ++ y ∷ []) q ∙ sym (ap (λ (ys : List Entry). map entry_view old ++ ys) h)

pub unchanged : (old : List InterfaceItem) (es : List Entry) → es ≡ [] → map entry_view old ≡ map entry_view old ++ es
unchanged old es h = sym (ap (λ (ys : List Entry). map entry_view old ++ ys) h ∙ append-nil (map entry_view old))

-- ---- interfaces

pub interface-entries : (r : Resolve) (i : Interface)
    → flat_map (written_at r) (ids_of i)
    ≡ flat_map (λ t. written_at r t.0) i.uses ++ (flat_map (λ t. written_at r t.0) i.types ++ flat_map (λ f. written_at r f.0) i.functions)
interface-entries r i =
    flat_map-append (written_at r) uses (types ++ functions)
    ∙ (ap (λ (xs : List Entry). xs ++ flat_map (written_at r) (types ++ functions)) (flat_map-map (written_at r) (λ t. t.0) i.uses)
    ∙ ap (λ (xs : List Entry). flat_map (λ t. written_at r t.0) i.uses ++ xs)
    (flat_map-append (written_at r) types functions
    ∙ (ap (λ (xs : List Entry). xs ++ flat_map (written_at r) functions) (flat_map-map (written_at r) (λ t. t.0) i.types)
    ∙ ap (λ (xs : List Entry). flat_map (λ t. written_at r t.0) i.types ++ xs) (flat_map-map (written_at r) (λ f. f.0) i.functions))))
  where
    uses : List ℕ
    uses = map (λ t. t.0) i.uses

    types : List ℕ
    types = map (λ t. t.0) i.types

    functions : List ℕ
    functions = map (λ f. f.0) i.functions

-- what is appended for the three parts, one behind the other
pub interface-pushed : (r : Resolve) (i : Interface) (us ts : List TypeId) (fs : List FunctionId) (none first second all : List Entry) → us ≡ i.uses → ts ≡ i.types → fs ≡ i.functions → none ≡ []
    → first ≡ none ++ flat_map (λ t. written_at r t.0) us → second ≡ first ++ flat_map (λ t. written_at r t.0) ts → all ≡ second ++ flat_map (λ f. written_at r f.0) fs
    → all ≡ flat_map (written_at r) (ids_of i)
interface-pushed r i us ts fs none first second all u t f n a b c =
    let begun : first ≡ used us = a ∙ ap (λ (xs : List Entry). xs ++ used us) n in
    let same : used us ++ (used ts ++ declared fs) ≡ used i.uses ++ (used i.types ++ declared i.functions) = cc in
    c ∙ ap (λ (xs : List Entry). xs ++ declared fs) (b ∙ ap (λ (xs : List Entry). xs ++ used ts) begun) ∙ append_assoc (used us) (used ts) (declared fs) ∙ same ∙ sym (interface-entries r i)
  where
    used : List TypeId → List Entry
    used ids = flat_map (λ t. written_at r t.0) ids

    declared : List FunctionId → List Entry
    declared ids = flat_map (λ f. written_at r f.0) ids

-- ---- worlds

item-placed : (r : Resolve) (w : ℕ) (k : WorldItemKind) → is_placed_item r.definitions (length r.interfaces) w k ≡ true → is_item r k ≡ true
item-placed r w (item.Interface i) h = h
item-placed r w (item.Function f) h = by (function_of (slice_get r.definitions f.0)) h
  where
    by : (o : Option Function) → is_function_of w o ≡ true → is_there o ≡ true
    by None h = absurd (false≢true h)
    by (Some g) h = refl

worlds-placed : (r : Resolve) (w : ℕ) (ws : List World) → are_placed_worlds r.definitions (length r.interfaces) w ws ≡ true → list_all (λ x. list_all (λ i. is_item r i.kind) x.items) ws ≡ true
worlds-placed r w [] h = refl
worlds-placed r w (x ∷ xs) h =
    let s = split (is_placed_world r.definitions (length r.interfaces) w x) (are_placed_worlds r.definitions (length r.interfaces) (w + 1) xs) h in
    both _ _ (list-grows (λ i. is_placed_item r.definitions (length r.interfaces) w i.kind) (λ i. is_item r i.kind) (λ i q. item-placed r w i.kind q) x.items s.0) (worlds-placed r (w + 1) xs s.1)

-- the items of worlds are interfaces and functions of the table
items-placed : (r : Resolve) → list_all (λ x. list_all (λ i. is_item r i.kind) x.items) r.worlds ≡ true
items-placed r = worlds-placed r 0 r.worlds r.worlds_placed

pub world-placed : (r : Resolve) (ws : List World) (k : ℕ) (w : World) → ws ≡ r.worlds → k < length ws → w ≡ get_or ws k w → list_all (λ i. is_item r i.kind) w.items ≡ true
world-placed r ws k w e l is =
    let s = split-at ws k w l is in
    at-true (λ x. list_all (λ i. is_item r i.kind) x.items) (take k ws) w s.0
    (subst (λ (xs : List World). list_all (λ x. list_all (λ i. is_item r i.kind) x.items) xs ≡ true) (s.1 ∙ append_assoc (take k ws) (w ∷ []) s.0)
    (subst (λ (xs : List World). list_all (λ x. list_all (λ i. is_item r i.kind) x.items) xs ≡ true) (sym e) (items-placed r)))
