-- What stands in a set as in its last package's closed table has the same closed type, so the closed table is within the limits of layout where the set is.
use Rattle.std.proofs.Common.{◌≡◌, ◌<◌, ◌⊎◌, inl, inr, ℕ, zero, suc, ◌+◌, ◌-◌, Bool, true, ◌&&◌, List, [], ◌∷◌, ◌++◌, map, length, take, drop, get_or, slice_get, Option, None, Some, refl, ap, sym, subst, ◌∙◌, arith}
use Rattle.std.specs.Option.{option_map}
use Rattle.std.specs.List.{list_all}
use Rattle.std.proofs.lemmas.Bool.{ltb-true}
use Rattle.std.proofs.lemmas.Option.{slice_get_within, slice_get-get_or}
use Rattle.canonical_abi.specs.Types.{ClosedType, string_type, list_type, record_type, variant_type, fields_of, cases_of}
use Rattle.canonical_abi.proofs.Traces.TracesLeaveImages.{slice_get-take, slice_get-drop}
use Rattle.layout.specs.Layout.{IsDefinitionWithin, AreWithin}
use Rattle.package_sets.specs.Attached.{IsAttached}
use Rattle.package_sets.specs.Joining.{import_rows, joined}
use Rattle.set_rows.specs.Moved.{Renaming, put_val, put_field, put_case, put_parameter, put_kind, put_row}
use Rattle.package_sets.proofs.GrowingLists.{map-get, front-get, behind-get, behind-place}
use Rattle.tables.specs.Tables.{option_all, kind_all, definition_all, is_below, definition_below}
use Rattle.tables.specs.Closed.{closed_val, closed_kind, closed_definition, closed_rows, closed_types}
use Rattle.tables.proofs.ClosedTypesRowByRow.{split, both, earlier-at, closed-at, closed_val-stays, get-at}
use Rattle.tables.specs.declared.tables.ValType.{ValType}
use Rattle.tables.specs.declared.tables.ValType.TheVariants as val
use Rattle.tables.specs.declared.tables.TypeDefKind.{TypeDefKind}
use Rattle.tables.specs.declared.tables.TypeDefKind.TheVariants as kind
use Rattle.tables.specs.declared.tables.Definition.{Definition}
use Rattle.tables.specs.declared.tables.Definition.TheVariants as row
use Rattle.tables.specs.declared.tables.Resolve.{Resolve}

-- ---- what is true of all that a row names, here and in the other table

module _ (to : Renaming) (here there : ValType → Bool) where
  abbrev in-both : ValType → Bool
  in-both v = here v && there (put_val to v)

  option-both : (v : Option ValType) → option_all here v ≡ true → option_all there (option_map (put_val to) v) ≡ true → option_all in-both v ≡ true
  option-both None h g = refl
  option-both (Some v) h g = both (here v) (there (put_val to v)) h g

  list-both : {A : Type 0} (put : A → A) (f g k : A → Bool) → ((x : A) → f x ≡ true → g (put x) ≡ true → k x ≡ true) → (xs : List A) → list_all f xs ≡ true → list_all g (map put xs) ≡ true → list_all k xs ≡ true
  list-both put f g k one [] p q = refl
  list-both put f g k one (x ∷ xs) p q =
      let s = split (f x) (list_all f xs) p in
      let t = split (g (put x)) (list_all g (map put xs)) q in
      both (k x) (list_all k xs) (one x s.0 t.0) (list-both put f g k one xs s.1 t.1)

  kind-both : (k : TypeDefKind) → kind_all here k ≡ true → kind_all there (put_kind to k) ≡ true → kind_all in-both k ≡ true
  kind-both (kind.Use t) h g = both (here (val.Id t)) (there (put_val to (val.Id t))) h g
  kind-both (kind.Alias v) h g = both (here v) (there (put_val to v)) h g
  kind-both (kind.List v) h g = both (here v) (there (put_val to v)) h g
  kind-both (kind.Option v) h g = both (here v) (there (put_val to v)) h g
  kind-both (kind.Result ok error) h g =
      let s = split (option_all here ok) (option_all here error) h in
      let t = split (option_all there (option_map (put_val to) ok)) (option_all there (option_map (put_val to) error)) g in
      both (option_all in-both ok) (option_all in-both error) (option-both ok s.0 t.0) (option-both error s.1 t.1)
  kind-both (kind.Tuple vs) h g = list-both (put_val to) here there in-both (λ v p q. both (here v) (there (put_val to v)) p q) vs h g
  kind-both (kind.Record fs) h g = list-both (put_field to) (λ f. here f.ty) (λ f. there f.ty) (λ f. in-both f.ty) (λ f p q. both (here f.ty) (there (put_val to f.ty)) p q) fs h g
  kind-both (kind.Variant cs) h g = list-both (put_case to) (λ c. option_all here c.ty) (λ c. option_all there c.ty) (λ c. option_all in-both c.ty) (λ c. option-both c.ty) cs h g
  kind-both (kind.Enum names) h g = refl
  kind-both (kind.Flags names) h g = refl

  definition-both : (d : Definition) → definition_all here d ≡ true → definition_all there (put_row to d) ≡ true → definition_all in-both d ≡ true
  definition-both (row.Type d) h g = kind-both d.kind h g
  definition-both (row.Function f) h g =
      let s = split (list_all (λ p. here p.ty) f.params) (option_all here f.result) h in
      let t = split (list_all (λ p. there p.ty) (map (put_parameter to) f.params)) (option_all there (option_map (put_val to) f.result)) g in
      both (list_all (λ p. in-both p.ty) f.params) (option_all in-both f.result)
      (list-both (put_parameter to) (λ p. here p.ty) (λ p. there p.ty) (λ p. in-both p.ty) (λ x p q. both (here x.ty) (there (put_val to x.ty)) p q) f.params s.0 t.0) (option-both f.result s.1 t.1)

-- ---- a row that names the same closed types has the same

module _ (to : Renaming) (old new : List ClosedType) (has : ValType → Bool) (each : (v : ValType) → has v ≡ true → closed_val new (put_val to v) ≡ closed_val old v) where
  option-same : (v : Option ValType) → option_all has v ≡ true → option_map (closed_val new) (option_map (put_val to) v) ≡ option_map (closed_val old) v
  option-same None h = refl
  option-same (Some v) h = ap Some (each v h)

  list-same : {A B : Type 0} (put : A → A) (f : A → Bool) (g h : A → B) → ((x : A) → f x ≡ true → g (put x) ≡ h x) → (xs : List A) → list_all f xs ≡ true → map g (map put xs) ≡ map h xs
  list-same put f g h one [] q = refl
  list-same put f g h one (x ∷ xs) q = let p = split (f x) (list_all f xs) q in let e = one x p.0 in let r = list-same put f g h one xs p.1 in cc

  kind-same : (k : TypeDefKind) → kind_all has k ≡ true → closed_kind new (put_kind to k) ≡ closed_kind old k
  kind-same (kind.Use t) h = each (val.Id t) h
  kind-same (kind.Alias v) h = each v h
  kind-same (kind.List v) h = ap list_type (each v h)
  kind-same (kind.Option v) h = ap (λ t. variant_type (cases_of (None ∷ Some t ∷ []))) (each v h)
  kind-same (kind.Result ok error) h =
      let p = split (option_all has ok) (option_all has error) h in
      ap (λ t. variant_type (cases_of (t ∷ option_map (closed_val new) (option_map (put_val to) error) ∷ []))) (option-same ok p.0)
      ∙ ap (λ t. variant_type (cases_of (option_map (closed_val old) ok ∷ t ∷ []))) (option-same error p.1)
  kind-same (kind.Tuple vs) h = ap (λ ts. record_type (fields_of ts)) (list-same (put_val to) has (closed_val new) (closed_val old) each vs h)
  kind-same (kind.Record fs) h = ap (λ ts. record_type (fields_of ts)) (list-same (put_field to) (λ f. has f.ty) (λ f. closed_val new f.ty) (λ f. closed_val old f.ty) (λ f. each f.ty) fs h)
  kind-same (kind.Variant cs) h =
      ap (λ ts. variant_type (cases_of ts)) (list-same (put_case to) (λ c. option_all has c.ty) (λ c. option_map (closed_val new) c.ty) (λ c. option_map (closed_val old) c.ty) (λ c. option-same c.ty) cs h)
  kind-same (kind.Enum names) h = refl
  kind-same (kind.Flags names) h = refl

  definition-same : (d : Definition) → definition_all has d ≡ true → closed_definition new (put_row to d) ≡ closed_definition old d
  definition-same (row.Type d) h = kind-same d.kind h
  definition-same (row.Function f) h =
      ap (λ ts. record_type (fields_of ts))
      (list-same (put_parameter to) (λ q. has q.ty) (λ q. closed_val new q.ty) (λ q. closed_val old q.ty) (λ q. each q.ty) f.params (split (list_all (λ q. has q.ty) f.params) (option_all has f.result) h).0)

-- ---- tables whose rows stand in another

-- a row names rows before it alone
below-row : (r : Resolve) (k : ℕ) (d : Definition) → slice_get r.definitions k ≡ Some d → definition_below k d ≡ true
below-row r k d e =
    let at = get-at r.definitions k d e in
    let same : 0 + k ≡ k = omega arith in
    subst (λ (n : ℕ). definition_below n d ≡ true) same (subst (λ (x : Definition). definition_below (0 + k) x ≡ true) (at.1 d) (earlier-at 0 r.definitions k d r.earlier at.0))

-- a row's closed type is the definition's, by the rows before it
row-closed : (r : Resolve) (k : ℕ) (d : Definition) → slice_get r.definitions k ≡ Some d → get_or (closed_types r) k string_type ≡ closed_definition (closed_rows [] (take k r.definitions)) d
row-closed r k d e =
    let at = get-at r.definitions k d e in
    closed-at r.definitions k d at.0 ∙ ap (closed_definition (closed_rows [] (take k r.definitions))) (at.1 d)

module _ (c r : Resolve) (to : Renaming) (there : (k : ℕ) (d : Definition) → slice_get c.definitions k ≡ Some d → slice_get r.definitions (to.rows k) ≡ Some (put_row to d)) where
  -- .. where each earlier one has the same closed type
  type-same : (k : ℕ) (d : Definition) → slice_get c.definitions k ≡ Some d → ((t : ℕ) (e : Definition) → t < k → slice_get c.definitions t ≡ Some e → get_or (closed_types r) (to.rows t) string_type ≡ get_or (closed_types c) t string_type)
      → get_or (closed_types r) (to.rows k) string_type ≡ get_or (closed_types c) k string_type
  type-same k d e before =
      let x = to.rows k in
      let at = there k d e in
      row-closed r x (put_row to d) at
      ∙ (definition-same to (closed_rows [] (take k c.definitions)) (closed_rows [] (take x r.definitions)) (in-both to (is_below k) (is_below x)) each d
      (definition-both to (is_below k) (is_below x) d (below-row c k d e) (below-row r x (put_row to d) at))
      ∙ sym (row-closed c k d e))
    where
      inside : k < length c.definitions
      inside = slice_get_within c.definitions k d e

      inside-there : to.rows k < length r.definitions
      inside-there = slice_get_within r.definitions (to.rows k) (put_row to d) (there k d e)

      each : (v : ValType) → in-both to (is_below k) (is_below (to.rows k)) v ≡ true → closed_val (closed_rows [] (take (to.rows k) r.definitions)) (put_val to v) ≡ closed_val (closed_rows [] (take k c.definitions)) v
      each (val.Primitive p) h = refl
      each val.String h = refl
      each (val.Id t) h =
          let s = split (is_below k (val.Id t)) (is_below (to.rows k) (put_val to (val.Id t))) h in
          let low : t.0 < k = ltb-true t.0 k s.0 in
          closed_val-stays r.definitions (to.rows k) (put_val to (val.Id t)) (omega (arith, inside-there)) s.1
          ∙ (before t.0 (get_or c.definitions t.0 d) low (slice_get-get_or c.definitions t.0 d (omega (arith, low, inside)))
          ∙ sym (closed_val-stays c.definitions k (val.Id t) (omega (arith, inside)) s.0))

  types-same : (n k : ℕ) (d : Definition) → k < n → slice_get c.definitions k ≡ Some d → get_or (closed_types r) (to.rows k) string_type ≡ get_or (closed_types c) k string_type
  types-same zero k d l e = absurd (omega (arith, l))
  types-same (suc n) k d l e = type-same k d e (λ t x m h. types-same n t x (omega (arith, m, l)) h)

  -- the limits of the other table are kept here
  stays-within : AreWithin r → AreWithin c
  stays-within w = record {
    each = λ k d l is.
        let e : slice_get c.definitions k ≡ Some d = slice_get-get_or c.definitions k d l ∙ ap Some is in
        let at = get-at r.definitions (to.rows k) (put_row to d) (there k d e) in
        subst (IsDefinitionWithin d) (types-same (k + 1) k d (omega arith) e) (put-within d _ (w.each (to.rows k) (put_row to d) at.0 (at.1 (put_row to d))));
  }
    where
      put-within : (d : Definition) (t : ClosedType) → IsDefinitionWithin (put_row to d) t → IsDefinitionWithin d t
      put-within (row.Type d) t h = h
      put-within (row.Function f) t h = h

-- ---- a closed table in the set with its package

module _ (s c r : Resolve) (id : ℕ) (a : IsAttached s c r id) where
  abbrev to : Renaming
  to = joined s c a.fits.imports.places

  abbrev front : List ℕ
  front = import_rows s c a.fits.imports.places

  row-there : (k : ℕ) (d : Definition) → slice_get c.definitions k ≡ Some d → slice_get r.definitions (to.rows k) ≡ Some (put_row to d)
  row-there k d e = ap (λ (ds : List Definition). slice_get ds (to.rows k)) a.own_behind.rows ∙ by (cut k (length front))
    where
      cut : (n m : ℕ) → (n < m) ⊎ (m + (n - m) ≡ n)
      cut n m = grind arith

      own : List Definition
      own = map (put_row to) (drop (length front) c.definitions)

      by : (k < length front) ⊎ (length front + (k - length front) ≡ k) → slice_get (s.definitions ++ own) (to.rows k) ≡ Some (put_row to d)
      by (inl l) = front-get s.definitions own (to.rows k) (put_row to d) (a.fits.imports.rows k d (slice_get-take (length front) c.definitions k l ∙ e))
      by (inr is) =
          let m = k - length front in
          let within : length front + m < length c.definitions = omega (arith, is, slice_get_within c.definitions k d e) in
          let place : to.rows k ≡ length s.definitions + m = ap to.rows (sym is) ∙ behind-place front (length s.definitions) (length c.definitions) m within in
          let here : slice_get (drop (length front) c.definitions) m ≡ Some d = slice_get-drop (length front) c.definitions m ∙ (ap (slice_get c.definitions) is ∙ e) in
          ap (slice_get (s.definitions ++ own)) place ∙ (behind-get s.definitions own m ∙ map-get (put_row to) (drop (length front) c.definitions) m d here)

  pub last-within : AreWithin r → AreWithin c
  last-within = stays-within c r to row-there
