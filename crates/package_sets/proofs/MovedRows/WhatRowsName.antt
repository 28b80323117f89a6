-- What a row names, and what is true of all of that.
use Rattle.std.proofs.Common.{◌≡◌, ◌<◌, inl, inr, ℕ, zero, suc, Bool, true, not, List, [], ◌∷◌, ◌++◌, map, slice_get, Option, None, Some, refl, ap, sym, subst, ◌∙◌, arith}
use Rattle.std.specs.Prelude.{flat_map, Contains, is_some}
use Rattle.std.specs.Option.{option_map}
use Rattle.std.specs.List.{list_all}
use Rattle.std.proofs.lemmas.List.Elements.{Contains-append_cases, Contains-append_left, Contains-append_right}
use Rattle.package_form.specs.References.{type_references, references_if, field_references, case_references, parameter_references, kind_references, row_references}
use Rattle.package_form.specs.Form.{is_named}
use Rattle.package_form.specs.Postfix.{is_unnamed}
use Rattle.set_rows.specs.Owners.{names}
use Rattle.set_rows.specs.Moved.{Renaming, put_id, put_val, put_field, put_case, put_parameter, put_kind, put_name, put_row}
use Rattle.std.proofs.lemmas.Bool.{ltb-true}
use Rattle.std.proofs.lemmas.List.{length-map, map-append}
use Rattle.std.proofs.lemmas.Option.{slice_get_within, get_or_from_slice_get}
use Rattle.tables.specs.Tables.{option_all, kind_all, definition_all, is_below, are_earlier, is_standard_kind, is_standard}
use Rattle.tables.proofs.ClosedTypesRowByRow.{split, both, below-at}
use Rattle.tables.specs.declared.tables.TypeId.{TypeId}
use Rattle.tables.specs.declared.tables.ValType.{ValType}
use Rattle.tables.specs.declared.tables.ValType.TheVariants as val
use Rattle.tables.specs.declared.tables.TypeDefKind.{TypeDefKind}
use Rattle.tables.specs.declared.tables.TypeDefKind.TheVariants as kind
use Rattle.tables.specs.declared.tables.TypeName.{TypeName}
use Rattle.tables.specs.declared.tables.TypeDef.{TypeDef}
use Rattle.tables.specs.declared.tables.Definition.{Definition}
use Rattle.tables.specs.declared.tables.Definition.TheVariants as row

-- ---- what is true of each id that a row names is true of all that it names

module _ (has : ValType → Bool) (primitive : (v : ValType) → type_references v ≡ [] → has v ≡ true) where
  abbrev pub AllNamed : List TypeId → Type 0
  AllNamed ts = (t : TypeId) → Contains ts t → has (val.Id t) ≡ true

  first : (t : TypeId) (ts : List TypeId) → AllNamed (t ∷ ts) → has (val.Id t) ≡ true
  first t ts a = a t (0, omega arith, refl)

  left : (ts us : List TypeId) → AllNamed (ts ++ us) → AllNamed ts
  left ts us a t h = a t (Contains-append_left ts us t h)

  right : (ts us : List TypeId) → AllNamed (ts ++ us) → AllNamed us
  right ts us a t h = a t (Contains-append_right ts us t h)

  val-all : (v : ValType) → AllNamed (type_references v) → has v ≡ true
  val-all (val.Primitive p) a = primitive (val.Primitive p) refl
  val-all val.String a = primitive val.String refl
  val-all (val.Id t) a = first t [] a

  if-all : (v : Option ValType) → AllNamed (references_if v) → option_all has v ≡ true
  if-all None a = refl
  if-all (Some v) a = val-all v a

  list-all : {A : Type 0} (of : A → List TypeId) (f : A → Bool) → ((x : A) → AllNamed (of x) → f x ≡ true) → (xs : List A) → AllNamed (flat_map of xs) → list_all f xs ≡ true
  list-all of f each [] a = refl
  list-all of f each (x ∷ xs) a = both (f x) (list_all f xs) (each x (left (of x) (flat_map of xs) (cut a))) (list-all of f each xs (right (of x) (flat_map of xs) (cut a)))
    where
      cut : AllNamed (flat_map of (x ∷ xs)) → AllNamed (of x ++ flat_map of xs)
      cut b = b

  kind-all : (d : TypeDef) → AllNamed (names (row.Type d)) → kind_all has d.kind ≡ true
  kind-all d a = by d.kind refl
    where
      named : (k : TypeDefKind) → d.kind ≡ k → AllNamed (names (row.Type (record { name = d.name; kind = k })))
      named k e = subst (λ (x : TypeDefKind). AllNamed (names (row.Type (record { name = d.name; kind = x })))) e a

      by : (k : TypeDefKind) → d.kind ≡ k → kind_all has d.kind ≡ true
      by (kind.Use t) e = rw e (first t [] (named (kind.Use t) e))
      by (kind.Alias v) e = rw e (val-all v (named (kind.Alias v) e))
      by (kind.List v) e = rw e (val-all v (named (kind.List v) e))
      by (kind.Option v) e = rw e (val-all v (named (kind.Option v) e))
      by (kind.Result ok error) e =
          let both-named = named (kind.Result ok error) e in
          rw e (both _ _ (if-all ok (left (references_if ok) (references_if error) both-named)) (if-all error (right (references_if ok) (references_if error) both-named)))
      by (kind.Tuple vs) e = rw e (list-all type_references has val-all vs (named (kind.Tuple vs) e))
      by (kind.Record fs) e = rw e (list-all field_references (λ f. has f.ty) (λ f. val-all f.ty) fs (named (kind.Record fs) e))
      by (kind.Variant cs) e = rw e (list-all case_references (λ c. option_all has c.ty) (λ c. if-all c.ty) cs (named (kind.Variant cs) e))
      by (kind.Enum ns) e = rw e refl
      by (kind.Flags ns) e = rw e refl

  pub definition-all : (d : Definition) → AllNamed (names d) → definition_all has d ≡ true
  definition-all (row.Type d) a = kind-all d a
  definition-all (row.Function f) a =
      both _ _ (list-all parameter_references (λ p. has p.ty) (λ p. val-all p.ty) f.params (left (flat_map parameter_references f.params) (references_if f.result) a))
      (if-all f.result (right (flat_map parameter_references f.params) (references_if f.result) a))

-- ---- what is true of all that a row names is true in the other table, where it is of each

module _ (to : Renaming) (has there : ValType → Bool) (each : (v : ValType) → has v ≡ true → there (put_val to v) ≡ true) where
  option-put : (v : Option ValType) → option_all has v ≡ true → option_all there (option_map (put_val to) v) ≡ true
  option-put None h = refl
  option-put (Some v) h = each v h

  list-put : {A : Type 0} (put : A → A) (f g : A → Bool) → ((x : A) → f x ≡ true → g (put x) ≡ true) → (xs : List A) → list_all f xs ≡ true → list_all g (map put xs) ≡ true
  list-put put f g one [] h = refl
  list-put put f g one (x ∷ xs) h = let p = split (f x) (list_all f xs) h in both _ _ (one x p.0) (list-put put f g one xs p.1)

  kind-put : (k : TypeDefKind) → kind_all has k ≡ true → kind_all there (put_kind to k) ≡ true
  kind-put (kind.Use t) h = each (val.Id t) h
  kind-put (kind.Alias v) h = each v h
  kind-put (kind.List v) h = each v h
  kind-put (kind.Option v) h = each v h
  kind-put (kind.Result ok error) h = let p = split (option_all has ok) (option_all has error) h in both _ _ (option-put ok p.0) (option-put error p.1)
  kind-put (kind.Tuple vs) h = list-put (put_val to) has there each vs h
  kind-put (kind.Record fs) h = list-put (put_field to) (λ f. has f.ty) (λ f. there f.ty) (λ f. each f.ty) fs h
  kind-put (kind.Variant cs) h = list-put (put_case to) (λ c. option_all has c.ty) (λ c. option_all there c.ty) (λ c. option-put c.ty) cs h
  kind-put (kind.Enum ns) h = refl
  kind-put (kind.Flags ns) h = refl

  pub definition-put : (d : Definition) → definition_all has d ≡ true → definition_all there (put_row to d) ≡ true
  definition-put (row.Type d) h = kind-put d.kind h
  definition-put (row.Function f) h =
      let p = split (list_all (λ p. has p.ty) f.params) (option_all has f.result) h in
      both _ _ (list-put (put_parameter to) (λ p. has p.ty) (λ p. there p.ty) (λ p. each p.ty) f.params p.0) (option-put f.result p.1)

-- ---- what is true of all that a row names is true of each id

contains-none : (t : TypeId) → Contains [] t → ⊥
contains-none t (k, h, e) = omega arith

contains-one : (t u : TypeId) → Contains (u ∷ []) t → t ≡ u
contains-one t u (zero, h, e) = sym e
contains-one t u (suc k, h, e) = absurd (omega arith)

module _ (has : ValType → Bool) where
  val-named : (v : ValType) → has v ≡ true → (t : TypeId) → Contains (type_references v) t → has (val.Id t) ≡ true
  val-named (val.Primitive p) h t c = absurd (contains-none t c)
  val-named val.String h t c = absurd (contains-none t c)
  val-named (val.Id u) h t c = ap (λ (x : TypeId). has (val.Id x)) (contains-one t u c) ∙ h

  if-named : (v : Option ValType) → option_all has v ≡ true → (t : TypeId) → Contains (references_if v) t → has (val.Id t) ≡ true
  if-named None h t c = absurd (contains-none t c)
  if-named (Some v) h t c = val-named v h t c

  list-named : {A : Type 0} (of : A → List TypeId) (f : A → Bool) → ((x : A) → f x ≡ true → (t : TypeId) → Contains (of x) t → has (val.Id t) ≡ true) → (xs : List A) → list_all f xs ≡ true
      → (t : TypeId) → Contains (flat_map of xs) t → has (val.Id t) ≡ true
  list-named of f each [] h t c = absurd (contains-none t c)
  list-named of f each (x ∷ xs) h t c =
      let p = split (f x) (list_all f xs) h in
      elim (Contains-append_cases (of x) (flat_map of xs) t c) [ inl q ↦ each x p.0 t q | inr q ↦ list-named of f each xs p.1 t q ]

  kind-named : (d : TypeDef) → kind_all has d.kind ≡ true → (t : TypeId) → Contains (names (row.Type d)) t → has (val.Id t) ≡ true
  kind-named d h t c = by d.kind refl
    where
      here : (k : TypeDefKind) → d.kind ≡ k → Contains (names (row.Type (record { name = d.name; kind = k }))) t
      here k e = subst (λ (x : TypeDefKind). Contains (names (row.Type (record { name = d.name; kind = x }))) t) e c

      all : (k : TypeDefKind) → d.kind ≡ k → kind_all has k ≡ true
      all k e = subst (λ (x : TypeDefKind). kind_all has x ≡ true) e h

      by : (k : TypeDefKind) → d.kind ≡ k → has (val.Id t) ≡ true
      by (kind.Use u) e = val-named (val.Id u) (all (kind.Use u) e) t (here (kind.Use u) e)
      by (kind.Alias v) e = val-named v (all (kind.Alias v) e) t (here (kind.Alias v) e)
      by (kind.List v) e = val-named v (all (kind.List v) e) t (here (kind.List v) e)
      by (kind.Option v) e = val-named v (all (kind.Option v) e) t (here (kind.Option v) e)
      by (kind.Result ok error) e =
          let p = split (option_all has ok) (option_all has error) (all (kind.Result ok error) e) in
          elim (Contains-append_cases (references_if ok) (references_if error) t (here (kind.Result ok error) e)) [ inl q ↦ if-named ok p.0 t q | inr q ↦ if-named error p.1 t q ]
      by (kind.Tuple vs) e = list-named type_references has val-named vs (all (kind.Tuple vs) e) t (here (kind.Tuple vs) e)
      by (kind.Record fs) e = list-named field_references (λ f. has f.ty) (λ f. val-named f.ty) fs (all (kind.Record fs) e) t (here (kind.Record fs) e)
      by (kind.Variant cs) e = list-named case_references (λ c. option_all has c.ty) (λ c. if-named c.ty) cs (all (kind.Variant cs) e) t (here (kind.Variant cs) e)
      by (kind.Enum ns) e = absurd (contains-none t (here (kind.Enum ns) e))
      by (kind.Flags ns) e = absurd (contains-none t (here (kind.Flags ns) e))

  pub definition-named : (d : Definition) → definition_all has d ≡ true → (t : TypeId) → Contains (names d) t → has (val.Id t) ≡ true
  definition-named (row.Type d) h t c = kind-named d h t c
  definition-named (row.Function f) h t c =
      let p = split (list_all (λ p. has p.ty) f.params) (option_all has f.result) h in
      elim (Contains-append_cases (flat_map parameter_references f.params) (references_if f.result) t c) [
        | inl q ↦ list-named parameter_references (λ p. has p.ty) (λ p. val-named p.ty) f.params p.0 t q
        | inr q ↦ if-named f.result p.1 t q
      ]

-- .. which stand before it
pub named-before : (rows : List Definition) (k : ℕ) (d : Definition) (t : TypeId) → are_earlier 0 rows ≡ true → slice_get rows k ≡ Some d → Contains (names d) t → t.0 < k
named-before rows k d t earlier e c =
    let below : definition_all (is_below k) d ≡ true = below-at k rows k d earlier (slice_get_within rows k d e) refl (sym (get_or_from_slice_get rows k d d e)) in
    ltb-true t.0 k (definition-named (is_below k) d below t c)

-- what a row refers to it names
pub referred-named : (d : Definition) (t : TypeId) → Contains (row_references d) t → Contains (names d) t
referred-named (row.Function f) t c = c
referred-named (row.Type d) t c = by d.kind refl
  where
    here : (k : TypeDefKind) → d.kind ≡ k → Contains (row_references (row.Type (record { name = d.name; kind = k }))) t
    here k e = subst (λ (x : TypeDefKind). Contains (row_references (row.Type (record { name = d.name; kind = x }))) t) e c

    back : (k : TypeDefKind) → d.kind ≡ k → Contains (names (row.Type (record { name = d.name; kind = k }))) t → Contains (names (row.Type d)) t
    back k e = subst (λ (x : TypeDefKind). Contains (names (row.Type (record { name = d.name; kind = x }))) t) (sym e)

    none : Contains [] t → ⊥
    none (k, h, z) = omega arith

    by : (k : TypeDefKind) → d.kind ≡ k → Contains (names (row.Type d)) t
    by (kind.Use u) e = absurd (none (here (kind.Use u) e))
    by (kind.Alias v) e = back (kind.Alias v) e (here (kind.Alias v) e)
    by (kind.List v) e = back (kind.List v) e (here (kind.List v) e)
    by (kind.Option v) e = back (kind.Option v) e (here (kind.Option v) e)
    by (kind.Result ok error) e = back (kind.Result ok error) e (here (kind.Result ok error) e)
    by (kind.Tuple vs) e = back (kind.Tuple vs) e (here (kind.Tuple vs) e)
    by (kind.Record fs) e = back (kind.Record fs) e (here (kind.Record fs) e)
    by (kind.Variant cs) e = back (kind.Variant cs) e (here (kind.Variant cs) e)
    by (kind.Enum ns) e = back (kind.Enum ns) e (here (kind.Enum ns) e)
    by (kind.Flags ns) e = back (kind.Flags ns) e (here (kind.Flags ns) e)

-- ---- a row keeps its limits

standard-kind : (to : Renaming) (k : TypeDefKind) → is_standard_kind k ≡ true → is_standard_kind (put_kind to k) ≡ true
standard-kind to (kind.Use t) h = refl
standard-kind to (kind.Alias v) h = refl
standard-kind to (kind.List v) h = refl
standard-kind to (kind.Option v) h = refl
standard-kind to (kind.Result ok error) h = refl
standard-kind to (kind.Tuple vs) h = rw (length-map vs (put_val to)) h
standard-kind to (kind.Record fs) h = rw (length-map fs (put_field to)) h
standard-kind to (kind.Variant cs) h = rw (length-map cs (put_case to)) h
standard-kind to (kind.Enum names) h = h
standard-kind to (kind.Flags names) h = h

pub standard-put : (to : Renaming) (d : Definition) → is_standard d ≡ true → is_standard (put_row to d) ≡ true
standard-put to (row.Type d) h = standard-kind to d.kind h
standard-put to (row.Function f) h = refl

pub unnamed-same : (to : Renaming) (d : Definition) → is_unnamed (put_row to d) ≡ is_unnamed d
unnamed-same to (row.Function f) = refl
unnamed-same to (row.Type d) = by d.name
  where
    by : (n : Option TypeName) → not (is_some (option_map (put_name to) n)) ≡ not (is_some n)
    by None = refl
    by (Some n) = refl

pub named-same : (to : Renaming) (d : Definition) → is_named (put_row to d) ≡ is_named d
named-same to d = ap not (unnamed-same to d)

-- ---- what a row refers to, put elsewhere

module _ (to : Renaming) where
  val-references : (v : ValType) → type_references (put_val to v) ≡ map (put_id to) (type_references v)
  val-references (val.Primitive p) = refl
  val-references val.String = refl
  val-references (val.Id t) = refl

  if-references : (v : Option ValType) → references_if (option_map (put_val to) v) ≡ map (put_id to) (references_if v)
  if-references None = refl
  if-references (Some v) = val-references v

  list-references : {A : Type 0} (put : A → A) (of : A → List TypeId) → ((x : A) → of (put x) ≡ map (put_id to) (of x)) → (xs : List A) → flat_map of (map put xs) ≡ map (put_id to) (flat_map of xs)
  list-references put of one [] = refl
  list-references put of one (x ∷ xs) =
      let e = one x in
      let r = list-references put of one xs in
      let m = map-append (put_id to) (of x) (flat_map of xs) in
      cc

  kind-references-put : (k : TypeDefKind) → kind_references (put_kind to k) ≡ map (put_id to) (kind_references k)
  kind-references-put (kind.Use t) = refl
  kind-references-put (kind.Alias v) = val-references v
  kind-references-put (kind.List v) = val-references v
  kind-references-put (kind.Option v) = val-references v
  kind-references-put (kind.Result ok error) =
      let x = if-references ok in
      let y = if-references error in
      let m = map-append (put_id to) (references_if ok) (references_if error) in
      cc
  kind-references-put (kind.Tuple vs) = list-references (put_val to) type_references val-references vs
  kind-references-put (kind.Record fs) = list-references (put_field to) field_references (λ f. val-references f.ty) fs
  kind-references-put (kind.Variant cs) = list-references (put_case to) case_references (λ c. if-references c.ty) cs
  kind-references-put (kind.Enum ns) = refl
  kind-references-put (kind.Flags ns) = refl

  pub row-references-put : (d : Definition) → row_references (put_row to d) ≡ map (put_id to) (row_references d)
  row-references-put (row.Type d) = kind-references-put d.kind
  row-references-put (row.Function f) =
      let x = list-references (put_parameter to) parameter_references (λ p. val-references p.ty) f.params in
      let y = if-references f.result in
      let m = map-append (put_id to) (flat_map parameter_references f.params) (references_if f.result) in
      cc

  pub names-put : (d : Definition) → names (put_row to d) ≡ map (put_id to) (names d)
  names-put (row.Function f) = row-references-put (row.Function f)
  names-put (row.Type d) = by d.kind
    where
      by : (k : TypeDefKind) → names (row.Type (record { name = d.name; kind = put_kind to k })) ≡ map (put_id to) (names (row.Type (record { name = d.name; kind = k })))
      by (kind.Use t) = refl
      by (kind.Alias v) = kind-references-put (kind.Alias v)
      by (kind.List v) = kind-references-put (kind.List v)
      by (kind.Option v) = kind-references-put (kind.Option v)
      by (kind.Result ok error) = kind-references-put (kind.Result ok error)
      by (kind.Tuple vs) = kind-references-put (kind.Tuple vs)
      by (kind.Record fs) = kind-references-put (kind.Record fs)
      by (kind.Variant cs) = kind-references-put (kind.Variant cs)
      by (kind.Enum ns) = refl
      by (kind.Flags ns) = refl
