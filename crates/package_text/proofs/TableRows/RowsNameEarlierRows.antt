-- What the rows of a table name stands before them: types of their own interface, and for uses a type of an earlier one.
use Rattle.std.proofs.Common.{◌≡◌, ◌<◌, List, [], ◌∷◌, ◌++◌, ℕ, length, map, flat_map, get_or, slice_get, refl, sym, ap, subst, ◌∙◌, arith, All}
use Rattle.std.specs.Prelude.{true, false, not, ◌&&◌, ◌||◌, Option, None, Some, is_some}
use Rattle.std.specs.List.{list_all}
use Rattle.std.specs.Option.{option_map}
use Rattle.std.proofs.lemmas.Bool.{and_parts, false≢true, ltb-true}
use Rattle.tables.specs.Tables.{option_all}
use Rattle.tables.specs.Package.{TextTree, Reference, Meaning, IsUse, IsType, IsFunction, read_val, read_kind, references, meaning_of, function_meaning, key_of, named_by, named_function, definition_of}
use Rattle.tables.specs.declared.tables.TypeId.{TypeId}
use Rattle.tables.specs.declared.tables.TypeDef.{TypeDef}
use Rattle.tables.specs.declared.tables.TypeDefKind.{TypeDefKind}
use Rattle.tables.specs.declared.tables.TypeDefKind.TheVariants as kind
use Rattle.tables.specs.declared.tables.TypeName.{TypeName}
use Rattle.tables.specs.declared.tables.Owner.{Owner}
use Rattle.tables.specs.declared.tables.Owner.TheVariants as owner
use Rattle.tables.specs.declared.tables.Function.{Function}
use Rattle.tables.specs.declared.tables.Definition.{Definition}
use Rattle.tables.specs.declared.tables.Definition.TheVariants as row
use Rattle.package_form.specs.Postfix.{unnamed_if, unnamed_parameter, parts, parts_of, aliased, IsPostfix}
use Rattle.package_form.specs.Ids.{is_use, is_owned_by, is_of_worlds}
use Rattle.package_form.specs.Form.{is_own_name, is_earlier_name}
use Rattle.package_form.proofs.AllAndContains.{all-append}
use Rattle.tree_meaning.specs.Building.{read_parameter}
use Rattle.tree_meaning.specs.Declarations.{named_if, named_member, named_definition, names_in_function}
use Rattle.tree_meaning.specs.Resolved.{fields_of_labelled}
use Rattle.tree_meaning.proofs.TypesReadStay.{parameters-read}
use Rattle.tree_meaning.proofs.ReferencesOfDefinitions.{Every}
use Rattle.tree_meaning.proofs.TableRows.{name-tree}
use Rattle.package_text.specs.Written.{ty_of, members_in, body_of}
use Rattle.package_text.specs.Tree.{function_by}
use Rattle.package_text.proofs.ResolvedTrees.WrittenNamesAreKnown.{maybe-names, members-names, body-names}
use Rattle.package_text.proofs.ResolvedTrees.TreeResolvesInPlace.{Each}
use Rattle.package_text.proofs.TableRows.RowsReadAsTrees.{is_own, is_earlier_row, IsNamed, PlaceExpressed, each-front, each-back, if-expressed, params-expressed, type-defined, is_local_kind, is_local, local-kind, type-meaning, IsOwned, parts-ready}
use Rattle.package_text.proofs.TableRows.DefinitionsByInterface.{leaves-at}

module _ (ns : List (List ℕ)) (front : List Definition) (k : ℕ) where
  abbrev pub IsTold : Meaning → Type 0
  IsTold (IsUse t) = (m : TypeName) × (t ≡ Reference (key_of ns m)) × (m.interface.0 < k) × IsNamed front m.interface.0 m.name
  IsTold (IsType t) = All (IsNamed front k) (named_definition (body_of t))
  IsTold (IsFunction fs result) = All (IsNamed front k) (names_in_function (function_by fs result))

  use-told : (t : TypeId) → is_earlier_row k (slice_get front t.0) ≡ true → IsTold (meaning_of (references ns [] front) (kind.Use t))
  use-told t h = by (slice_get front t.0) refl h
    where
      told : (d : TypeDef) (m : Option TypeName) → d.name ≡ m → slice_get front t.0 ≡ Some (row.Type d) → is_earlier_name k m ≡ true → IsTold (IsUse (get_or (references ns [] front) t.0 TextTree))
      told d None q s x = absurd (false≢true x)
      told d (Some m) q s x =
          let tree : get_or (references ns [] front) t.0 TextTree ≡ Reference (key_of ns m) = ap (λ i. get_or (references ns [] front) i TextTree) (omega arith) ∙ name-tree ns [] front t.0 d m s q in
          (m, tree, ltb-true m.interface.0 k x, (t.0, d, m, s, q, refl, refl))

      by : (o : Option Definition) → slice_get front t.0 ≡ o → is_earlier_row k o ≡ true → IsTold (IsUse (get_or (references ns [] front) t.0 TextTree))
      by None s x = absurd (false≢true x)
      by (Some (row.Function f)) s x = absurd (false≢true x)
      by (Some (row.Type d)) s x = told d d.name refl s x

  other-told : (d : TypeDefKind) → is_use d ≡ false → aliased front d ≡ [] → is_local_kind ns front k d ≡ true → Each (PlaceExpressed ns front k) (parts front d) → IsTold (meaning_of (references ns [] front) d)
  other-told d u a h e =
      subst IsTold (sym (type-meaning ns front k d u))
      (body-names (get_or ns k []) (IsNamed front k) (read_kind (references ns [] front) d) (type-defined ns front k d u a (local-kind ns front k d u h) e))

  kind-told : (d : TypeDefKind) → aliased front d ≡ [] → is_local_kind ns front k d ≡ true → Each (PlaceExpressed ns front k) (parts front d) → IsTold (meaning_of (references ns [] front) d)
  kind-told (kind.Use t) a h e = use-told t h
  kind-told (kind.Alias v) a h e = other-told (kind.Alias v) refl a h e
  kind-told (kind.List v) a h e = other-told (kind.List v) refl a h e
  kind-told (kind.Option v) a h e = other-told (kind.Option v) refl a h e
  kind-told (kind.Result ok error) a h e = other-told (kind.Result ok error) refl a h e
  kind-told (kind.Tuple vs) a h e = other-told (kind.Tuple vs) refl a h e
  kind-told (kind.Record fs) a h e = other-told (kind.Record fs) refl a h e
  kind-told (kind.Variant cs) a h e = other-told (kind.Variant cs) refl a h e
  kind-told (kind.Enum names) a h e = other-told (kind.Enum names) refl a h e
  kind-told (kind.Flags names) a h e = other-told (kind.Flags names) refl a h e

  pub function-told : (f : Function) → is_local ns front k (row.Function f) ≡ true → Each (PlaceExpressed ns front k) (parts_of front (row.Function f)) → IsTold (function_meaning (references ns [] front) f)
  function-told f h e =
      let t = and_parts (is_owned_by k f.owner || is_of_worlds f.owner) (list_all (λ p. is_own front k p.ty) f.params && option_all (is_own front k) f.result) h in
      let u = and_parts (list_all (λ p. is_own front k p.ty) f.params) (option_all (is_own front k) f.result) t.1 in
      let trees = references ns [] front in
      let result = option_map (read_val trees) f.result in
      let params = map (read_parameter trees) f.params in
      subst (λ xs. All (IsNamed front k) (flat_map named_member (members_in xs) ++ named_if (option_map ty_of result))) (sym (parameters-read trees f.params))
      (all-append (IsNamed front k) (flat_map named_member (members_in (fields_of_labelled params))) (named_if (option_map ty_of result))
      (members-names (get_or ns k []) (IsNamed front k) params
      (params-expressed ns front k f.params u.0 (each-front (PlaceExpressed ns front k) (flat_map (unnamed_parameter front) f.params) (unnamed_if front f.result) e)))
      (maybe-names (get_or ns k []) (IsNamed front k) result
      (if-expressed ns front k f.result u.1 (each-back (PlaceExpressed ns front k) (flat_map (unnamed_parameter front) f.params) (unnamed_if front f.result) e))))

module _ (ns : List (List ℕ)) (rows : List Definition) (at : ℕ → ℕ) (o : IsOwned ns rows at) (p : IsPostfix rows) where
  -- the definition of a row, if it has one
  abbrev pub RowTold : List Definition → Definition → Type 0
  RowTold front d = Every (λ x. IsTold ns front (at (length front)) x.meaning) (definition_of ns (references ns [] front) d)

  pub row-told : (front : List Definition) (d : Definition) (rest : List Definition) → rows ≡ front ++ d ∷ rest → RowTold front d
  row-told front (row.Type d) rest e = by d.name refl
    where
      by : (m : Option TypeName) → d.name ≡ m → Every (λ x. IsTold ns front (at (length front)) x.meaning) (named_by ns (references ns [] front) m d.kind)
      by None q = tt
      by (Some n) q =
          let k = at (length front) in
          let before = leaves-at rows [] p front (row.Type d) rest e (ap (λ m. not (is_some m)) q) in
          let l = and_parts (is_own_name (at (length front)) d.name) (is_local_kind ns front (at (length front)) d.kind) (o.local front (row.Type d) rest e) in
          (kind-told ns front k d.kind before.1 l.1 (parts-ready ns rows at o front (row.Type d) before.0 rest e), tt)
  row-told front (row.Function f) rest e =
      by f.owner
      (function-told ns front (at (length front)) f (o.local front (row.Function f) rest e)
      (parts-ready ns rows at o front (row.Function f) (leaves-at rows [] p front (row.Function f) rest e refl).0 rest e))
    where
      by : (w : Owner) → IsTold ns front (at (length front)) (function_meaning (references ns [] front) f)
          → Every (λ x. IsTold ns front (at (length front)) x.meaning) (named_function ns w f.name (function_meaning (references ns [] front) f))
      by (owner.Interface i) h = (h, tt)
      by (owner.World w) h = tt
