-- What the rows of an interface read as: trees whose types are written in that interface.
use Rattle.std.proofs.Common.{◌≡◌, inl, inr, ◌<◌, ◌+◌, ℕ, zero, suc, List, [], ◌∷◌, ◌++◌, length, map, flat_map, get_or, slice_get, refl, sym, ap, subst, ◌∙◌, append_assoc, length-append, arith}
use Rattle.std.specs.Prelude.{Bool, true, false, not, ◌&&◌, ◌||◌, ◌==◌, Option, None, Some, is_some}
use Rattle.std.specs.List.{list_all}
use Rattle.std.specs.Option.{option_map}
use Rattle.std.proofs.lemmas.Bool.{and_parts, or_cases, false≢true, eqb-true}
use Rattle.tables.specs.Tables.{option_all, kind_all}
use Rattle.tables.specs.Package.{Tree, TextTree, Reference, RecordTree, VariantTree, Plain, AsTuple, IsUse, IsType, IsFunction, read_val, read_kind, meaning_of, function_meaning, references, key_of, named_function, definition_of}
use Rattle.tables.specs.declared.tables.TypeId.{TypeId}
use Rattle.tables.specs.declared.tables.ValType.{ValType}
use Rattle.tables.specs.declared.tables.ValType.TheVariants as val
use Rattle.tables.specs.declared.tables.TypeDefKind.{TypeDefKind}
use Rattle.tables.specs.declared.tables.TypeDefKind.TheVariants as kind
use Rattle.tables.specs.declared.tables.TypeName.{TypeName}
use Rattle.tables.specs.declared.tables.TypeDef.{TypeDef}
use Rattle.tables.specs.declared.tables.Parameter.{Parameter}
use Rattle.tables.specs.declared.tables.Field.{Field}
use Rattle.tables.specs.declared.tables.Case.{Case}
use Rattle.tables.specs.declared.tables.Function.{Function}
use Rattle.tables.specs.declared.tables.Owner.{Owner}
use Rattle.tables.specs.declared.tables.Owner.TheVariants as owner
use Rattle.tables.specs.declared.tables.Definition.{Definition}
use Rattle.tables.specs.declared.tables.Definition.TheVariants as row
use Rattle.package_form.specs.Postfix.{is_unnamed, is_unnamed_row, one_if, unnamed, unnamed_if, unnamed_field, unnamed_case, unnamed_parameter, parts, parts_of, aliased, is_inner, inner_row, Leaves, begin, inner, whole}
use Rattle.package_form.specs.Ids.{is_owned_by, is_of_worlds, is_use}
use Rattle.package_form.specs.Form.{is_own_name, is_earlier_name}
use Rattle.tree_meaning.specs.Building.{read_field, read_parameter, read_case}
use Rattle.tree_meaning.specs.Resolved.{result_tree}
use Rattle.package_form.proofs.AllAndContains.{all-cons, all-none}
use Rattle.tree_meaning.proofs.TypesReadStay.{tuple-reads, fields-read, parameters-read, cases-read}
use Rattle.tree_meaning.proofs.TableRows.{name-tree, trees-kept, tree-here, references-append, references-length, not-use}
use Rattle.package_text.proofs.WrittenTrees.WrittenStandsForTree.{Anything, Expressed, a_primitive, a_string, a_name, a_list, an_option, a_tuple, a_result, AllExpressed, no_more, one_more, MaybeExpressed, not_there, is_there, FieldExpressed, CaseExpressed, FieldsExpressed, CasesExpressed, Defined, an_alias, a_record, a_variant, an_enum, a_flags}
use Rattle.package_text.proofs.ResolvedTrees.WrittenNamesAreKnown.{expressed-more, maybe-more, fields-more, defined-more}
use Rattle.package_text.proofs.ResolvedTrees.TreeResolvesInPlace.{each-append, each-map, Each, none_left, and_next, UseOf, a_use, TypeOf, a_type, FunctionOf, a_function}

-- a row that interface k may name: one of its own types, or one without a name
abbrev pub is_own_row : ℕ → Option Definition → Bool
is_own_row k None = false
is_own_row k (Some (row.Function f)) = false
is_own_row k (Some (row.Type d)) = is_own_name k d.name

abbrev pub is_own : List Definition → ℕ → ValType → Bool
is_own rows k (val.Primitive p) = true
is_own rows k val.String = true
is_own rows k (val.Id t) = is_own_row k (slice_get rows t.0)

-- a type with a name, of an interface before k
abbrev pub is_earlier_row : ℕ → Option Definition → Bool
is_earlier_row k None = false
is_earlier_row k (Some (row.Function f)) = false
is_earlier_row k (Some (row.Type d)) = is_earlier_name k d.name

-- these rows have a type of interface k of this name
abbrev pub IsNamed : List Definition → ℕ → List ℕ → Type 0
IsNamed rows k n = (t : ℕ) × (d : TypeDef) × (m : TypeName) × (slice_get rows t ≡ Some (row.Type d)) × (d.name ≡ Some m) × (m.interface.0 ≡ k) × (m.name ≡ n)

got-later : {A : Type 0} (xs ys : List A) (n : ℕ) (x : A) → slice_get xs n ≡ Some x → slice_get (xs ++ ys) n ≡ Some x
got-later [] ys n x e = absurd cc
got-later (y ∷ xs) ys zero x e = e
got-later (y ∷ xs) ys (suc n) x e = got-later xs ys n x e

pub named-later : (rows more : List Definition) (k : ℕ) (n : List ℕ) → IsNamed rows k n → IsNamed (rows ++ more) k n
named-later rows more k n (t, d, m, there, named, own, same) = (t, d, m, got-later rows more t (row.Type d) there, named, own, same)

pub each-front : {A : Type 0} (P : A → Type 0) (xs ys : List A) → Each P (xs ++ ys) → Each P xs
each-front P [] ys e = none_left
each-front P (x ∷ xs) ys (and_next _ _ h e) = and_next x xs h (each-front P xs ys e)

pub each-back : {A : Type 0} (P : A → Type 0) (xs ys : List A) → Each P (xs ++ ys) → Each P ys
each-back P [] ys e = e
each-back P (x ∷ xs) ys (and_next _ _ h e) = each-back P xs ys e

pub each-one : {A : Type 0} (P : A → Type 0) (x : A) → Each P (x ∷ []) → P x
each-one P x (and_next _ _ h e) = h

module _ (ns : List (List ℕ)) (front : List Definition) (k : ℕ) where
  abbrev trees : List Tree
  trees = references ns [] front

  abbrev here : List ℕ
  here = get_or ns k []

  abbrev known : List ℕ → Type 0
  known = IsNamed front k

  -- the trees of the rows at these places are written in the interface
  abbrev pub PlaceExpressed : ℕ → Type 0
  PlaceExpressed t = Expressed (get_or ns k []) (IsNamed front k) (get_or (references ns [] front) t TextTree)

  pub val-expressed : (v : ValType) → is_own front k v ≡ true → Each PlaceExpressed (unnamed front v) → Expressed here known (read_val trees v)
  val-expressed (val.Primitive p) h e = a_primitive p
  val-expressed val.String h e = a_string
  val-expressed (val.Id t) h e = by (slice_get front t.0) refl h
    where
      named : (d : TypeDef) (m : Option TypeName) → d.name ≡ m → slice_get front t.0 ≡ Some (row.Type d) → is_own_name k m ≡ true → Expressed (get_or ns k []) (IsNamed front k) (get_or (references ns [] front) t.0 TextTree)
      named d None q s o =
          each-one PlaceExpressed t.0 (subst (Each PlaceExpressed) (ap (λ x. one_if (is_unnamed_row x) t.0) s ∙ ap (λ m. one_if (not (is_some m)) t.0) q) e)
      named d (Some n) q s o =
          let tree : get_or (references ns [] front) t.0 TextTree ≡ Reference (key_of ns n) = ap (λ i. get_or (references ns [] front) i TextTree) (omega arith) ∙ name-tree ns [] front t.0 d n s q in
          let same : n.interface.0 ≡ k = eqb-true n.interface.0 k o in
          subst (Expressed (get_or ns k []) (IsNamed front k)) (ap (λ j. Reference (record { interface = get_or ns j []; name = n.name })) (sym same) ∙ sym tree) (a_name n.name (t.0, d, n, s, q, same, refl))

      by : (o : Option Definition) → slice_get front t.0 ≡ o → is_own_row k o ≡ true → Expressed (get_or ns k []) (IsNamed front k) (get_or (references ns [] front) t.0 TextTree)
      by None s o = absurd (false≢true o)
      by (Some (row.Function f)) s o = absurd (false≢true o)
      by (Some (row.Type d)) s o = named d d.name refl s o

  pub if-expressed : (v : Option ValType) → option_all (is_own front k) v ≡ true → Each PlaceExpressed (unnamed_if front v) → MaybeExpressed here known (option_map (read_val trees) v)
  if-expressed None h e = not_there
  if-expressed (Some v) h e = is_there (read_val trees v) (val-expressed v h e)

  all-expressed : (vs : List ValType) → list_all (is_own front k) vs ≡ true → Each PlaceExpressed (flat_map (unnamed front) vs) → AllExpressed here known (map (read_val trees) vs)
  all-expressed [] h e = no_more
  all-expressed (v ∷ vs) h e =
      let t = and_parts (is_own front k v) (list_all (is_own front k) vs) h in
      one_more (read_val trees v) (map (read_val trees) vs) (val-expressed v t.0 (each-front PlaceExpressed (unnamed front v) (flat_map (unnamed front) vs) e))
      (all-expressed vs t.1 (each-back PlaceExpressed (unnamed front v) (flat_map (unnamed front) vs) e))

  fields-expressed : (fs : List Field) → list_all (λ f. is_own front k f.ty) fs ≡ true → Each PlaceExpressed (flat_map (unnamed_field front) fs) → FieldsExpressed here known (map (read_field trees) fs)
  fields-expressed [] h e = all-none (FieldExpressed here known)
  fields-expressed (f ∷ fs) h e =
      let t = and_parts (is_own front k f.ty) (list_all (λ f. is_own front k f.ty) fs) h in
      all-cons (FieldExpressed here known) (read_field trees f) (map (read_field trees) fs) (val-expressed f.ty t.0 (each-front PlaceExpressed (unnamed_field front f) (flat_map (unnamed_field front) fs) e))
      (fields-expressed fs t.1 (each-back PlaceExpressed (unnamed_field front f) (flat_map (unnamed_field front) fs) e))

  pub params-expressed : (fs : List Parameter) → list_all (λ f. is_own front k f.ty) fs ≡ true → Each PlaceExpressed (flat_map (unnamed_parameter front) fs) → FieldsExpressed here known (map (read_parameter trees) fs)
  params-expressed [] h e = all-none (FieldExpressed here known)
  params-expressed (f ∷ fs) h e =
      let t = and_parts (is_own front k f.ty) (list_all (λ f. is_own front k f.ty) fs) h in
      all-cons (FieldExpressed here known) (read_parameter trees f) (map (read_parameter trees) fs) (val-expressed f.ty t.0 (each-front PlaceExpressed (unnamed_parameter front f) (flat_map (unnamed_parameter front) fs) e))
      (params-expressed fs t.1 (each-back PlaceExpressed (unnamed_parameter front f) (flat_map (unnamed_parameter front) fs) e))

  cases-expressed : (cs : List Case) → list_all (λ c. option_all (is_own front k) c.ty) cs ≡ true → Each PlaceExpressed (flat_map (unnamed_case front) cs) → CasesExpressed here known (map (read_case trees) cs)
  cases-expressed [] h e = all-none (CaseExpressed here known)
  cases-expressed (c ∷ cs) h e =
      let t = and_parts (option_all (is_own front k) c.ty) (list_all (λ c. option_all (is_own front k) c.ty) cs) h in
      all-cons (CaseExpressed here known) (read_case trees c) (map (read_case trees) cs) (if-expressed c.ty t.0 (each-front PlaceExpressed (unnamed_case front c) (flat_map (unnamed_case front) cs) e))
      (cases-expressed cs t.1 (each-back PlaceExpressed (unnamed_case front c) (flat_map (unnamed_case front) cs) e))

  result-read : (ok error : Option ValType) → read_kind trees (kind.Result ok error) ≡ result_tree (option_map (read_val trees) ok) (option_map (read_val trees) error)
  result-read None None = refl
  result-read None (Some v) = refl
  result-read (Some u) None = refl
  result-read (Some u) (Some v) = refl

  -- a type that can stand without a name
  pub inner-expressed : (d : TypeDefKind) → is_inner d ≡ true → kind_all (is_own front k) d ≡ true → Each PlaceExpressed (parts front d) → Expressed here known (read_kind trees d)
  inner-expressed (kind.List v) i h e = a_list (read_val trees v) (val-expressed v h e)
  inner-expressed (kind.Option v) i h e = an_option (read_val trees v) (val-expressed v h e)
  inner-expressed (kind.Result ok error) i h e =
      let t = and_parts (option_all (is_own front k) ok) (option_all (is_own front k) error) h in
      subst (Expressed here known) (sym (result-read ok error)) (a_result (option_map (read_val trees) ok) (option_map (read_val trees) error)
      (if-expressed ok t.0 (each-front PlaceExpressed (unnamed_if front ok) (unnamed_if front error) e)) (if-expressed error t.1 (each-back PlaceExpressed (unnamed_if front ok) (unnamed_if front error) e)))
  inner-expressed (kind.Tuple vs) i h e =
      subst (λ fs. Expressed here known (RecordTree AsTuple fs)) (sym (tuple-reads trees vs)) (a_tuple (map (read_val trees) vs) (all-expressed vs h e))
  inner-expressed (kind.Use t) i h e = absurd (false≢true i)
  inner-expressed (kind.Alias v) i h e = absurd (false≢true i)
  inner-expressed (kind.Record fs) i h e = absurd (false≢true i)
  inner-expressed (kind.Variant cs) i h e = absurd (false≢true i)
  inner-expressed (kind.Enum names) i h e = absurd (false≢true i)
  inner-expressed (kind.Flags names) i h e = absurd (false≢true i)

  -- a type with a name, which is no used name
  pub type-defined : (d : TypeDefKind) → is_use d ≡ false → aliased front d ≡ [] → kind_all (is_own front k) d ≡ true → Each PlaceExpressed (parts front d) → Defined here known (read_kind trees d)
  type-defined (kind.Use t) u a h e = absurd (false≢true (sym u))
  type-defined (kind.Alias v) u a h e = an_alias (read_val trees v) (val-expressed v h (subst (Each PlaceExpressed) (sym a) none_left))
  type-defined (kind.List v) u a h e = an_alias (read_kind trees (kind.List v)) (inner-expressed (kind.List v) refl h e)
  type-defined (kind.Option v) u a h e = an_alias (read_kind trees (kind.Option v)) (inner-expressed (kind.Option v) refl h e)
  type-defined (kind.Result ok error) u a h e = an_alias (read_kind trees (kind.Result ok error)) (inner-expressed (kind.Result ok error) refl h e)
  type-defined (kind.Tuple vs) u a h e = an_alias (read_kind trees (kind.Tuple vs)) (inner-expressed (kind.Tuple vs) refl h e)
  type-defined (kind.Record fs) u a h e = subst (λ xs. Defined here known (RecordTree Plain xs)) (sym (fields-read trees fs)) (a_record (map (read_field trees) fs) (fields-expressed fs h e))
  type-defined (kind.Variant cs) u a h e = subst (λ xs. Defined here known (VariantTree Plain xs)) (sym (cases-read trees cs)) (a_variant (map (read_case trees) cs) (cases-expressed cs h e))
  type-defined (kind.Enum names) u a h e = an_enum names
  type-defined (kind.Flags names) u a h e = a_flags names

  -- ---- rows with a name

  -- a use names a type of an earlier interface; each other type, and a function, names types of its own interface
  abbrev pub is_local_kind : TypeDefKind → Bool
  is_local_kind (kind.Use t) = is_earlier_row k (slice_get front t.0)
  is_local_kind d = kind_all (is_own front k) d

  abbrev pub is_local : Definition → Bool
  is_local (row.Type d) = is_own_name k d.name && is_local_kind d.kind
  is_local (row.Function f) = (is_owned_by k f.owner || is_of_worlds f.owner) && (list_all (λ p. is_own front k p.ty) f.params && option_all (is_own front k) f.result)

  pub local-kind : (d : TypeDefKind) → is_use d ≡ false → is_local_kind d ≡ true → kind_all (is_own front k) d ≡ true
  local-kind (kind.Use t) u h = absurd (false≢true (sym u))
  local-kind (kind.Alias v) u h = h
  local-kind (kind.List v) u h = h
  local-kind (kind.Option v) u h = h
  local-kind (kind.Result ok error) u h = h
  local-kind (kind.Tuple vs) u h = h
  local-kind (kind.Record fs) u h = h
  local-kind (kind.Variant cs) u h = h
  local-kind (kind.Enum names) u h = h
  local-kind (kind.Flags names) u h = h

  pub type-meaning : (d : TypeDefKind) → is_use d ≡ false → meaning_of trees d ≡ IsType (read_kind trees d)
  type-meaning (kind.Use t) u = absurd (false≢true (sym u))
  type-meaning (kind.Alias v) u = refl
  type-meaning (kind.List v) u = refl
  type-meaning (kind.Option v) u = refl
  type-meaning (kind.Result ok error) u = refl
  type-meaning (kind.Tuple vs) u = refl
  type-meaning (kind.Record fs) u = refl
  type-meaning (kind.Variant cs) u = refl
  type-meaning (kind.Enum names) u = refl
  type-meaning (kind.Flags names) u = refl

  key-here : (n : TypeName) → is_own_name k (Some n) ≡ true → key_of ns n ≡ record { interface = get_or ns k []; name = n.name }
  key-here n o = ap (λ j. record { interface = get_or ns j []; name = n.name }) (eqb-true n.interface.0 k o)

  pub use-row : (n : TypeName) (t : TypeId) → is_own_name k (Some n) ≡ true → is_earlier_row k (slice_get front t.0) ≡ true → UseOf here (record { key = key_of ns n; meaning = meaning_of trees (kind.Use t) })
  use-row n t o h = by (slice_get front t.0) refl h
    where
      named : (d : TypeDef) (m : Option TypeName) → d.name ≡ m → slice_get front t.0 ≡ Some (row.Type d) → is_earlier_name k m ≡ true
          → UseOf (get_or ns k []) (record { key = key_of ns n; meaning = IsUse (get_or (references ns [] front) t.0 TextTree) })
      named d None q s x = absurd (false≢true x)
      named d (Some m) q s x =
          let tree : get_or (references ns [] front) t.0 TextTree ≡ Reference (key_of ns m) = ap (λ i. get_or (references ns [] front) i TextTree) (omega arith) ∙ name-tree ns [] front t.0 d m s q in
          subst (λ a. UseOf (get_or ns k []) (record { key = a; meaning = IsUse (get_or (references ns [] front) t.0 TextTree) })) (sym (key-here n o))
          (subst (λ a. UseOf (get_or ns k []) (record { key = record { interface = get_or ns k []; name = n.name }; meaning = IsUse a })) (sym tree) (a_use n.name (key_of ns m)))

      by : (o : Option Definition) → slice_get front t.0 ≡ o → is_earlier_row k o ≡ true → UseOf (get_or ns k []) (record { key = key_of ns n; meaning = IsUse (get_or (references ns [] front) t.0 TextTree) })
      by None s x = absurd (false≢true x)
      by (Some (row.Function f)) s x = absurd (false≢true x)
      by (Some (row.Type d)) s x = named d d.name refl s x

  pub type-row : (n : TypeName) (d : TypeDefKind) → is_own_name k (Some n) ≡ true → is_use d ≡ false → aliased front d ≡ [] → is_local_kind d ≡ true → Each PlaceExpressed (parts front d)
      → TypeOf here (record { key = key_of ns n; meaning = meaning_of trees d })
  type-row n d o u a h e =
      subst (λ x. TypeOf here (record { key = x; meaning = meaning_of trees d })) (sym (key-here n o))
      (subst (λ m. TypeOf here (record { key = record { interface = here; name = n.name }; meaning = m })) (sym (type-meaning d u))
      (a_type n.name (read_kind trees d) (defined-more here known Anything (λ m l. tt) (read_kind trees d) (type-defined d u a (local-kind d u h) e))))

  pub function-row : (f : Function) → is_local (row.Function f) ≡ true → Each PlaceExpressed (parts_of front (row.Function f)) → Each (FunctionOf here) (definition_of ns trees (row.Function f))
  function-row f h e =
      let t = and_parts (is_owned_by k f.owner || is_of_worlds f.owner) (list_all (λ p. is_own front k p.ty) f.params && option_all (is_own front k) f.result) h in
      let u = and_parts (list_all (λ p. is_own front k p.ty) f.params) (option_all (is_own front k) f.result) t.1 in
      by f.owner t.0
      (subst (λ xs. FunctionOf here (record { key = record { interface = here; name = f.name }; meaning = IsFunction xs (option_map (read_val trees) f.result) })) (sym (parameters-read trees f.params))
      (a_function f.name (map (read_parameter trees) f.params) (option_map (read_val trees) f.result)
      (fields-more here known Anything (λ m l. tt) (map (read_parameter trees) f.params) (params-expressed f.params u.0 (each-front PlaceExpressed (flat_map (unnamed_parameter front) f.params) (unnamed_if front f.result) e)))
      (maybe-more here known Anything (λ m l. tt) (option_map (read_val trees) f.result) (if-expressed f.result u.1 (each-back PlaceExpressed (flat_map (unnamed_parameter front) f.params) (unnamed_if front f.result) e)))))
    where
      by : (o : Owner) → (is_owned_by k o || is_of_worlds o) ≡ true → FunctionOf (get_or ns k []) (record { key = record { interface = get_or ns k []; name = f.name }; meaning = function_meaning (references ns [] front) f })
          → Each (FunctionOf (get_or ns k [])) (named_function ns o f.name (function_meaning (references ns [] front) f))
      by (owner.Interface i) o told =
          and_next _ []
          (subst (λ (n : List ℕ). FunctionOf (get_or ns k []) (record { key = record { interface = n; name = f.name }; meaning = function_meaning (references ns [] front) f }))
          (ap (λ j. get_or ns j []) (sym (eqb-true i.0 k (elim (or_cases (i.0 == k) false o) [ inl q ↦ q | inr q ↦ absurd (false≢true q) ])))) told) none_left
      by (owner.World w) o told = none_left

-- ---- all rows

-- at tells of each place whose rows stand there, those of worlds behind all interfaces: each row is local, and no interface ends behind a row without a name
pub record IsOwned (ns : List (List ℕ)) (all : List Definition) (at : ℕ → ℕ) : Type 0 where
  pub local : (front : List Definition) (d : Definition) (rest : List Definition) → all ≡ front ++ d ∷ rest → is_local ns front (at (length front)) d ≡ true
  pub onward : (front : List Definition) (d : Definition) (rest : List Definition) → all ≡ front ++ d ∷ rest → is_unnamed d ≡ true → at (suc (length front)) ≡ at (length front)

-- a row that is still to be used stands before, and is written in the interface that comes next
abbrev pub IsReady : List (List ℕ) → List Definition → ℕ → ℕ → Type 0
IsReady ns rows k t = (t < length rows) × PlaceExpressed ns rows k t

ready-later : (ns : List (List ℕ)) (rows : List Definition) (d : Definition) (k t : ℕ) → IsReady ns rows k t → IsReady ns (rows ++ d ∷ []) k t
ready-later ns rows d k t (l, e) =
    let long : length (rows ++ d ∷ []) ≡ length rows + 1 = length-append rows (d ∷ []) in
    let kept : get_or (references ns [] (rows ++ d ∷ [])) t TextTree ≡ get_or (references ns [] rows) t TextTree =
    ap (λ (xs : List Tree). get_or xs t TextTree) (references-append ns [] rows (d ∷ [])) ∙ trees-kept ns (references ns [] rows) (d ∷ []) t (let c = references-length ns [] rows in omega (arith, l, c)) in (
      omega (arith, l, long),
      subst (Expressed (get_or ns k []) (IsNamed (rows ++ d ∷ []) k)) (sym kept)
          (expressed-more (get_or ns k []) (IsNamed rows k) (IsNamed (rows ++ d ∷ []) k) (named-later rows (d ∷ []) k) (get_or (references ns [] rows) t TextTree) e),
    )

module _ (ns : List (List ℕ)) (all : List Definition) (at : ℕ → ℕ) (o : IsOwned ns all at) where
  -- What is still to be used is written in the interface whose row comes next.
  pub leaves-ready : (rows : List Definition) (unused : List ℕ) → Leaves rows unused → (rest : List Definition) → all ≡ rows ++ rest → Each (IsReady ns rows (at (length rows))) unused
  leaves-ready _ _ begin rest e = none_left
  leaves-ready _ _ (whole rows d u a before) rest e = none_left
  leaves-ready _ _ (inner rows unused d i before) rest e =
      let flat : all ≡ rows ++ inner_row d ∷ rest = e ∙ append_assoc rows (inner_row d ∷ []) rest in
      let k : ℕ = at (length rows) in
      let so-far = leaves-ready rows (unused ++ parts rows d) before (inner_row d ∷ rest) flat in
      let mine = o.local rows (inner_row d) rest flat in
      let built : Expressed (get_or ns k []) (IsNamed rows k) (read_kind (references ns [] rows) d) =
      inner-expressed ns rows k d i (local-kind ns rows k d (not-use d i) mine) (each-map (IsReady ns rows k) (PlaceExpressed ns rows k) (λ t p. p.1) (parts rows d) (each-back (IsReady ns rows k) unused (parts rows d) so-far)) in
      let long : length (rows ++ inner_row d ∷ []) ≡ suc (length rows) = length-append rows (inner_row d ∷ []) ∙ omega arith in
      let same : at (length (rows ++ inner_row d ∷ [])) ≡ k = ap at long ∙ o.onward rows (inner_row d) rest flat refl in
      let older = each-map (IsReady ns rows k) (IsReady ns (rows ++ inner_row d ∷ []) k) (λ t p. ready-later ns rows (inner_row d) k t p) unused (each-front (IsReady ns rows k) unused (parts rows d) so-far) in
      let newest : IsReady ns (rows ++ inner_row d ∷ []) k (length rows) = (
        omega (arith, long),
        subst (Expressed (get_or ns k []) (IsNamed (rows ++ inner_row d ∷ []) k)) (sym (tree-here ns rows [] (inner_row d)))
            (expressed-more (get_or ns k []) (IsNamed rows k) (IsNamed (rows ++ inner_row d ∷ []) k) (named-later rows (inner_row d ∷ []) k) (read_kind (references ns [] rows) d) built),
      ) in
      subst (λ j. Each (IsReady ns (rows ++ inner_row d ∷ []) j) (unused ++ length rows ∷ [])) (sym same)
      (each-append (IsReady ns (rows ++ inner_row d ∷ []) k) unused (length rows ∷ []) older (and_next (length rows) [] newest none_left))

  -- so the parts of a row with a name are written in its interface
  pub parts-ready : (rows : List Definition) (d : Definition) → Leaves rows (parts_of rows d) → (rest : List Definition) → all ≡ rows ++ d ∷ rest → Each (PlaceExpressed ns rows (at (length rows))) (parts_of rows d)
  parts-ready rows d before rest e =
      each-map (IsReady ns rows (at (length rows))) (PlaceExpressed ns rows (at (length rows))) (λ t p. p.1) (parts_of rows d) (leaves-ready rows (parts_of rows d) before (d ∷ rest) e)
