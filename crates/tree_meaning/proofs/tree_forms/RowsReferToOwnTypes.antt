-- The rows of an interface refer to its own types, and its uses to those of earlier interfaces.
use Rattle.std.proofs.Common.{◌≡◌, ◌≢◌, ℕ, ◌<◌, true, false, cond, not, ◌&&◌, ◌==◌, List, [], ◌∷◌, ◌++◌, length, slice_get, is_some, Option, None, Some, refl, ap, sym, subst, ◌∙◌, arith, inl, inr}
use Rattle.std.specs.Prelude.{slice_index_or}
use Rattle.std.specs.Option.{option_map}
use Rattle.std.specs.List.{list_all}
use Rattle.std.proofs.lemmas.Bool.{ltb-true, lt-ltb}
use Rattle.tables.specs.Tables.{type_of, is_there, is_type_id, is_type, definition_all, definition_below}
use Rattle.tables.specs.Package.{Tree, TextTree, Reference, Key, key_of, read_val, read_params, read_kind, meaning_of, reference_by, references}
use Rattle.tables.specs.declared.tables.TypeId.{TypeId}
use Rattle.tables.specs.declared.tables.TypeDef.{TypeDef}
use Rattle.tables.specs.declared.tables.TypeDefKind.{TypeDefKind}
use Rattle.tables.specs.declared.tables.TypeName.{TypeName}
use Rattle.tables.specs.declared.tables.Owner.{Owner}
use Rattle.tables.specs.declared.tables.Owner.TheVariants as owner
use Rattle.tables.specs.declared.tables.Function.{Function}
use Rattle.tables.specs.declared.tables.Definition.{Definition}
use Rattle.tables.specs.declared.tables.Definition.TheVariants as row
use Rattle.package_form.specs.Postfix.{is_inner}
use Rattle.package_form.specs.Ids.{is_owned_by}
use Rattle.package_form.specs.Form.{is_own_name, is_own_type, is_own, is_earlier_name, is_earlier_type, is_earlier, uses_earlier, is_owned, is_local}
use Rattle.package_form.specs.References.{kind_references, row_references}
use Rattle.package_form.specs.Reached.{name_of, name_at}
use Rattle.tables.proofs.ClosedTypesRowByRow.{split, both}
use Rattle.package_form.proofs.LaterRowsChangeNothing.{stands_before, row-all, row-before}
use Rattle.package_form.proofs.AllAndContains.{get-front, all-get}
use Rattle.tree_meaning.proofs.tree_forms.RowsCutByDefinition.{TypeMeans, Means}
use Rattle.tree_meaning.proofs.ReferencesOfDefinitions.{Every, Refers, FieldsRefer, RefersIf, IdRefers, tree_of, params-ids, if-ids, kind-ids, every-append}
use Rattle.tree_meaning.proofs.RowsOfEachInterface.{is_inner_row, RowRefers, NamedRefers}
use Rattle.tree_meaning.proofs.tree_forms.InterfaceOfEachRow.{IsPlace, MeansAny, use-kind, type-kind, no-function, inner-use, inner-reads, not-use, tree-at}
use Rattle.tree_meaning.proofs.AllDefinitions.{owner_name}
use Rattle.tree_meaning.proofs.TableRows.{is-that}

-- ---- the row of a reference

module _ (ns : List (List ℕ)) (rows : List Definition) (pre post : List Definition) (parts : rows ≡ pre ++ post) (inner : list_all is_inner_row rows ≡ true) where
  abbrev front_trees : List Tree
  front_trees = references ns [] pre

  there : (t : TypeId) (d : TypeDef) → t.0 < length pre → slice_get rows t.0 ≡ Some (row.Type d)
      → (before : List Tree) × (tree_of front_trees t ≡ reference_by ns d.name (read_kind before d.kind))
  there t d l e =
      let here : slice_get pre t.0 ≡ Some (row.Type d) = sym (get-front pre post t.0 l) ∙ ap (λ (xs : List Definition). slice_get xs t.0) (sym parts) ∙ e in
      let x = tree-at ns [] pre t.0 d here in
      (x.0, ap (λ (n : ℕ). slice_index_or front_trees n TextTree) (omega arith) ∙ x.1)

  named-there : (o : Option TypeName) (before : List Tree) (k : TypeDefKind) (target : Key) (m : ℕ) → cond (is_some o) true (is_inner k) ≡ true
      → reference_by ns o (read_kind before k) ≡ Reference target → IsPlace ns m target.interface → (n : TypeName) × (o ≡ Some n) × (n.interface.0 ≡ m)
  named-there None before k target m inside e at = absurd (inner-reads before k target inside e)
  named-there (Some n) before k target m inside e at =
      let is : slice_index_or ns n.interface.0 [] ≡ target.interface = cc in
      (n, refl, at n.interface.0 is)

  -- a reference to a name is to a row of it, in the interface of that place
  pub name-there : (t : TypeId) (target : Key) (m : ℕ) → t.0 < length pre → is_type_id rows t ≡ true → tree_of front_trees t ≡ Reference target → IsPlace ns m target.interface
      → (n : TypeName) × (name_at rows (Some t) ≡ Some n) × (n.interface.0 ≡ m)
  name-there t target m l typed h at = by (slice_get rows t.0) refl typed
    where
      by : (o : Option Definition) → slice_get rows t.0 ≡ o → is_there (type_of o) ≡ true → (n : TypeName) × (name_of (type_of o) ≡ Some n) × (n.interface.0 ≡ m)
      by None e q = absurd (cc)
      by (Some (row.Function f)) e q = absurd (cc)
      by (Some (row.Type d)) e q =
          let x = there t d l e in
          named-there d.name x.0 d.kind target m (all-get is_inner_row rows t.0 (row.Type d) inner e) (sym x.1 ∙ h) at

earlier-named : {j : ℕ} (o : Option TypeDef) (n : TypeName) → name_of o ≡ Some n → n.interface.0 < j → is_earlier_type j o ≡ true
earlier-named None n e l = absurd (cc)
earlier-named {j = j} (Some d) n e l = ap (is_earlier_name j) e ∙ lt-ltb n.interface.0 j l

module _ (ns : List (List ℕ)) (rows : List Definition) (j : ℕ) (i : List ℕ) (place : IsPlace ns j i) (some : i ≢ []) where
  -- ---- a row with a name

  type-refers : (trees : List Tree) (o : Option TypeName) (k : TypeDefKind) → TypeMeans ns (MeansAny ns j i) trees o k → not (is_some o) ≡ false → Every (IdRefers i trees) (kind_references k)
  type-refers trees None k h u = absurd (cc)
  type-refers trees (Some n) k (inl x) u = let e = use-kind trees k (Reference x.target) x.meaning in subst (λ (l : TypeDefKind). Every (IdRefers i trees) (kind_references l)) (sym e.1) tt
  type-refers trees (Some n) k (inr (inl x)) u = kind-ids i trees k (subst (Refers i) (sym (type-kind trees k x.tree x.meaning).1) x.refers)
  type-refers trees (Some n) k (inr (inr x)) u = absurd (no-function trees k x.params x.result x.meaning)

  function-refers : (trees : List Tree) (f : Function) → Means ns (MeansAny ns j i) trees (row.Function f) → Every (IdRefers i trees) (row_references (row.Function f))
  function-refers trees f (inl x) = absurd (let e = x.meaning in cc)
  function-refers trees f (inr (inl x)) = absurd (let e = x.meaning in cc)
  function-refers trees f (inr (inr x)) =
      let e = x.meaning in
      let params : x.params ≡ read_params trees f.params = cc in
      let result : x.result ≡ option_map (read_val trees) f.result = cc in
      every-append (IdRefers i trees) _ _ (params-ids i trees f.params (subst (FieldsRefer i) params x.params_refer)) (if-ids i trees f.result (subst (RefersIf i) result x.result_refers))

  pub any-refers : (trees : List Tree) (d : Definition) → Means ns (MeansAny ns j i) trees d → NamedRefers ns rows i trees d
  any-refers trees (row.Type d) h u = type-refers trees d.name d.kind h u
  any-refers trees (row.Function f) h u = function-refers trees f h

  any-key : (x : _) → MeansAny ns j i x → x.key.interface ≡ i
  any-key x (inl h) = h.key
  any-key x (inr (inl h)) = h.key
  any-key x (inr (inr h)) = h.key

  -- ---- what stands at a place

  module _ (pre post : List Definition) (parts : rows ≡ pre ++ post) (inner : list_all is_inner_row rows ≡ true) where
    abbrev trees : List Tree
    trees = references ns [] pre

    named-own : (o : Option TypeName) (tree : Tree) → Refers i (reference_by ns o tree) → is_own_name j o ≡ true
    named-own None tree h = refl
    named-own (Some n) tree h = is-that n.interface.0 j (place n.interface.0 h)

    own : (t : TypeId) → t.0 < length pre → is_type_id rows t ≡ true → IdRefers i trees t → is_own rows j t ≡ true
    own t l typed h = by (slice_get rows t.0) refl typed
      where
        by : (o : Option Definition) → slice_get rows t.0 ≡ o → is_there (type_of o) ≡ true → is_own_type j (type_of o) ≡ true
        by None e q = absurd (cc)
        by (Some (row.Function f)) e q = absurd (cc)
        by (Some (row.Type d)) e q = let x = there ns rows pre post parts inner t d l e in named-own d.name (read_kind x.0 d.kind) (subst (Refers i) x.1 h)

    earlier : (t : TypeId) (target : Key) (m : ℕ) → t.0 < length pre → is_type_id rows t ≡ true → tree_of trees t ≡ Reference target → IsPlace ns m target.interface → m < j
        → is_earlier rows j t ≡ true
    earlier t target m l typed h at lt =
        let x = name-there ns rows pre post parts inner t target m l typed h at in
        earlier-named (type_of (slice_get rows t.0)) x.0 x.1 (omega (arith, x.2, lt))

    -- ---- where a row stands

    owned-type : (o : Option TypeName) (k : TypeDefKind) → definition_below (length pre) (row.Type (record { name = o; kind = k })) ≡ true
        → definition_all (is_type rows) (row.Type (record { name = o; kind = k })) ≡ true → cond (is_some o) true (is_inner k) ≡ true
        → TypeMeans ns (MeansAny ns j i) trees o k → (is_own_name j o && uses_earlier rows j k) ≡ true
    owned-type None k below typed inside h = not-use rows j k (inner-use k inside)
    owned-type (Some n) k below typed inside h =
        both (n.interface.0 == j) (uses_earlier rows j k) (is-that n.interface.0 j (place n.interface.0 (any-key _ h))) (by h)
      where
        by : MeansAny ns j i (record { key = key_of ns n; meaning = meaning_of trees k }) → uses_earlier rows j k ≡ true
        by (inl x) =
            let e = use-kind trees k (Reference x.target) x.meaning in
            let less = subst (λ (l : TypeDefKind). definition_below (length pre) (row.Type (record { name = Some n; kind = l })) ≡ true) e.1 below in
            let is = subst (λ (l : TypeDefKind). definition_all (is_type rows) (row.Type (record { name = Some n; kind = l })) ≡ true) e.1 typed in
            subst (λ (l : TypeDefKind). uses_earlier rows j l ≡ true) (sym e.1) (earlier e.0 x.target x.place (ltb-true e.0.0 (length pre) less) is e.2 x.there x.earlier)
        by (inr (inl x)) = not-use rows j k (type-kind trees k x.tree x.meaning).0
        by (inr (inr x)) = absurd (no-function trees k x.params x.result x.meaning)

    owned-function : (w : Owner) → owner_name ns w ≡ i → is_owned_by j w ≡ true
    owned-function (owner.Interface k) e = is-that k.0 j (place k.0 e)
    owned-function (owner.World w) e = absurd (some (sym e))

    owned : (d : Definition) → definition_below (length pre) d ≡ true → definition_all (is_type rows) d ≡ true → is_inner_row d ≡ true
        → Means ns (MeansAny ns j i) trees d → is_owned rows j d ≡ true
    owned (row.Type d) below typed inside h = owned-type d.name d.kind below typed inside h
    owned (row.Function f) below typed inside h = owned-function f.owner (any-key _ h)

    all-own : (ts : List TypeId) → list_all (stands_before (length pre)) ts ≡ true → list_all (is_type_id rows) ts ≡ true → Every (IdRefers i trees) ts → list_all (is_own rows j) ts ≡ true
    all-own [] b t h = refl
    all-own (x ∷ xs) b t h =
        let before = split (stands_before (length pre) x) (list_all (stands_before (length pre)) xs) b in
        let typed = split (is_type_id rows x) (list_all (is_type_id rows) xs) t in
        both (is_own rows j x) (list_all (is_own rows j) xs) (own x (ltb-true x.0 (length pre) before.0) typed.0 h.0) (all-own xs before.1 typed.1 h.1)

    pub local : (d : Definition) → definition_below (length pre) d ≡ true → definition_all (is_type rows) d ≡ true → is_inner_row d ≡ true
        → Means ns (MeansAny ns j i) trees d → RowRefers ns rows i trees d → is_local rows j d ≡ true
    local d below typed inside h refers =
        both (is_owned rows j d) (list_all (is_own rows j) (row_references d)) (owned d below typed inside h)
        (all-own (row_references d) (row-before (length pre) d below) (row-all (is_type rows) (is_type_id rows) (λ t q. q) d typed) refers)
