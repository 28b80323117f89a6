-- After one more row of an interface, what was read of it is again as it should be.
use Rattle.std.proofs.Common.{◌≡◌, ◌≤◌, ◌<◌, ◌⊎◌, inl, inr, ℕ, zero, suc, ◌+◌, Bool, true, false, nat_lt, nat_le, List, [], ◌∷◌, ◌++◌, length, slice_get, slice_index, Option, None, Some, bytes_eq, refl, ap, sym, subst, ◌∙◌, arith, append_assoc, length-append}
use Rattle.std.proofs.lemmas.List.{get_or_append_left, get_or_push}
use Rattle.std.proofs.lemmas.Bool.Decides.{nat_tests}
use Rattle.std.proofs.lemmas.Slice.Eq.{bytes_eq-Decides}
use Rattle.std.proofs.lemmas.Bool.{ltb-true, lt-ltb}
use Rattle.package_form.specs.Postfix.{inner_row}
use Rattle.package_form.specs.Scoped.{NameEntry}
use Rattle.package_form.specs.Ids.{type_id}
use Rattle.tables.specs.Tables.{type_of, is_there, is_type_id}
use Rattle.tables.specs.declared.tables.TypeId.{TypeId}
use Rattle.tables.specs.declared.tables.TypeDefKind.{TypeDefKind}
use Rattle.tables.specs.declared.tables.TypeName.{TypeName}
use Rattle.tables.specs.declared.tables.FunctionId.{FunctionId}
use Rattle.tables.specs.declared.tables.Function.{Function}
use Rattle.tables.specs.declared.tables.Definition.{Definition}
use Rattle.tables.specs.declared.tables.Definition.TheVariants as row
use Rattle.component_reader.specs.Instance.{Nothing, InstanceRead, type_named, with_unnamed, named_row, with_named, with_index, alias_to, with_name}
use Rattle.package_form.specs.Reached.{name_of, name_at}
use Rattle.component_reader.specs.Types.{row_at}
use Rattle.wit_component.specs.Rows.{Place, defined_types, row_types, row_offset, place_after}
use Rattle.wit_component.proofs.ReadAgain.ExportedNames.{named-found, named-other}
use Rattle.tables.proofs.ClosedTypesRowByRow.{split, both}
use Rattle.wit_component.proofs.ReadAgain.ReadableRows.{is_inside, NamesType, HasRead}

pub row-at-more : (xs ys : List (Option TypeId)) (i : ℕ) (t : TypeId) → row_at xs i ≡ Some t → row_at (xs ++ ys) i ≡ Some t
row-at-more [] ys i t h = absurd (cc)
row-at-more (x ∷ xs) ys zero t h = h
row-at-more (x ∷ xs) ys (suc i) t h = row-at-more xs ys i t h

pub row-at-behind : (xs ys : List (Option TypeId)) (i : ℕ) → row_at (xs ++ ys) (length xs + i) ≡ row_at ys i
row-at-behind [] ys i = let e : 0 + i ≡ i = omega arith in ap (row_at ys) e
row-at-behind (x ∷ xs) ys i = let e : suc (length xs) + i ≡ suc (length xs + i) = omega arith in ap (row_at (x ∷ xs ++ ys)) e ∙ row-at-behind xs ys i

pub below-or-last : (i n : ℕ) → i < n + 1 → (i < n) ⊎ (i ≡ n)
below-or-last i n h = by (nat_lt i n) refl
  where
    by : (b : Bool) → nat_lt i n ≡ b → (i < n) ⊎ (i ≡ n)
    by true e = inl (grind (arith, nat_tests))
    by false e = inr (grind (arith, nat_tests))

module _ (table : List Definition) (start k : ℕ) where
  pub later : (n m : ℕ) (s : InstanceRead) (y : TypeName) → n ≤ m → NamesType table start k n s y → NamesType table start k m s y
  later n m s y h q = record { id = q.id; found = q.found; named = q.named; lower = q.lower; upper = omega (arith, q.upper); here = q.here }

  module _ (at : Place) (s : InstanceRead) (has : HasRead table start k at s) (d : Definition) (here : slice_get table (length at.indices) ≡ Some d) where
    len : (x : ℕ) → length (at.indices ++ x ∷ []) ≡ length at.indices + 1
    len x = length-append at.indices (x ∷ [])

    -- one more row, of which the last of these indices is told
    kept : (s2 : InstanceRead) (more : List (Option TypeId)) → s2.awaited ≡ Nothing → s2.indices ≡ s.indices ++ more → length s2.rows ≡ length s.rows + 1 → length more ≡ row_types d
        → (is_there (type_of (Some d)) ≡ true → row_at more (row_offset d) ≡ Some (type_id (length at.indices)))
        → ((t : TypeId) (y : TypeName) → start ≤ t.0 → t.0 < length at.indices + 1 → name_at table (Some t) ≡ Some y → NamesType table start k (length at.indices + 1) s2 y)
        → HasRead table start k (place_after at d) s2
    kept s2 more none is rows count last names = record {
      awaited = none;
      types = ap length is ∙ length-append s.indices more ∙ omega (arith, has.types, count);
      rows = rows ∙ omega (arith, has.rows, len (at.types + row_offset d));
      begins = omega (arith, has.begins, len (at.types + row_offset d));
      known = known;
      names = λ t y low up e. subst (λ n. NamesType table start k n s2 y) (sym (len (at.types + row_offset d))) (names t y low (omega (arith, len (at.types + row_offset d))) e);
    }
      where
        old : (t : TypeId) → t.0 < length at.indices → nat_le start t.0 ≡ true → is_type_id table t ≡ true → row_at s2.indices (slice_index (at.indices ++ (at.types + row_offset d) ∷ []) t.0) ≡ Some t
        old t up low type =
            ap (row_at s2.indices) (get_or_append_left at.indices ((at.types + row_offset d) ∷ []) 0 t.0 up)
            ∙ ap (λ (xs : List (Option TypeId)). row_at xs (slice_index at.indices t.0)) is
            ∙ row-at-more s.indices more (slice_index at.indices t.0) t (has.known t (both _ _ low (both _ _ (lt-ltb t.0 (length at.indices) up) type)))

        new : (t : TypeId) → t.0 ≡ length at.indices → is_type_id table t ≡ true → row_at s2.indices (slice_index (at.indices ++ (at.types + row_offset d) ∷ []) t.0) ≡ Some t
        new t e type =
            let typed : is_there (type_of (Some d)) ≡ true = ap (λ (o : Option Definition). is_there (type_of o)) (sym here) ∙ ap (λ (n : ℕ). is_there (type_of (slice_get table n))) (sym e) ∙ type in
            ap (row_at s2.indices) (get_or_push at.indices (at.types + row_offset d) 0 t.0 (sym e))
            ∙ ap (λ (xs : List (Option TypeId)). row_at xs (at.types + row_offset d)) is
            ∙ ap (λ (n : ℕ). row_at (s.indices ++ more) (n + row_offset d)) (sym has.types)
            ∙ row-at-behind s.indices more (row_offset d) ∙ last typed ∙ ap (λ (n : ℕ). Some (type_id n)) (sym e)

        known : (t : TypeId) → is_inside table start (length (at.indices ++ (at.types + row_offset d) ∷ [])) t ≡ true
            → row_at s2.indices (slice_index (at.indices ++ (at.types + row_offset d) ∷ []) t.0) ≡ Some t
        known t h =
            let a = split (nat_le start t.0) _ h in
            let b = split (nat_lt t.0 (length (at.indices ++ (at.types + row_offset d) ∷ []))) _ a.1 in
            by (below-or-last t.0 (length at.indices) (omega (arith, ltb-true t.0 _ b.0, len (at.types + row_offset d)))) a.0 b.1
          where
            by : (t.0 < length at.indices) ⊎ (t.0 ≡ length at.indices) → nat_le start t.0 ≡ true → is_type_id table t ≡ true
                → row_at s2.indices (slice_index (at.indices ++ (at.types + row_offset d) ∷ []) t.0) ≡ Some t
            by (inl up) low type = old t up low type
            by (inr e) low type = new t e type

    -- .. of no name, that no name stands for
    nameless : (s2 : InstanceRead) → s2.names ≡ s.names → name_of (type_of (Some d)) ≡ None
        → (t : TypeId) (y : TypeName) → start ≤ t.0 → t.0 < length at.indices + 1 → name_at table (Some t) ≡ Some y → NamesType table start k (length at.indices + 1) s2 y
    nameless s2 is none t y low up e = by (below-or-last t.0 (length at.indices) up)
      where
        by : (t.0 < length at.indices) ⊎ (t.0 ≡ length at.indices) → NamesType table start k (length at.indices + 1) s2 y
        by (inl l) =
            let q = has.names t y low l e in
            record { id = q.id; found = ap (λ (es : List NameEntry). type_named es y.name) is ∙ q.found; named = q.named; lower = q.lower; upper = omega (arith, q.upper); here = q.here }
        by (inr q) =
            let clash : None ≡ Some y = sym none ∙ ap (λ (o : Option Definition). name_of (type_of o)) (sym here) ∙ ap (λ (n : ℕ). name_of (type_of (slice_get table n))) (sym q) ∙ e in
            absurd (cc)

    -- .. of this name
    named-more : (s2 : InstanceRead) (x : List ℕ) → s2.names ≡ with_name s.names x (type_id (length s.rows))
        → name_of (type_of (Some d)) ≡ Some (record { interface = record { 0 = k }; name = x })
        → (t : TypeId) (y : TypeName) → start ≤ t.0 → t.0 < length at.indices + 1 → name_at table (Some t) ≡ Some y → NamesType table start k (length at.indices + 1) s2 y
    named-more s2 x is told t y low up e = by (below-or-last t.0 (length at.indices) up)
      where
        own : name_at table (Some (type_id (length s.rows))) ≡ Some (record { interface = record { 0 = k }; name = x })
        own = ap (λ (n : ℕ). name_of (type_of (slice_get table n))) has.rows ∙ ap (λ (o : Option Definition). name_of (type_of o)) here ∙ told

        this : record { interface = record { 0 = k }; name = x } ≡ y → NamesType table start k (length at.indices + 1) s2 y
        this q = record {
          id = type_id (length s.rows);
          found = ap (λ (es : List NameEntry). type_named es y.name) is ∙ ap (λ (z : TypeName). type_named (with_name s.names x (type_id (length s.rows))) z.name) (sym q)
              ∙ named-found s.names x (type_id (length s.rows));
          named = own ∙ ap (λ (z : TypeName). Some z) q;
          lower = omega (arith, has.rows, has.begins);
          upper = omega (arith, has.rows);
          here = ap (λ (z : TypeName). z.interface.0) (sym q);
        }

        other : NamesType table start k (length at.indices) s y → (b : Bool) → bytes_eq y.name x ≡ b → NamesType table start k (length at.indices + 1) s2 y
        other q true same =
            let e1 : x ≡ y.name = sym ((bytes_eq-Decides y.name x).0 same) in
            let e2 : k ≡ y.interface.0 = sym q.here in
            this (ap (λ (n : ℕ). record { interface = record { 0 = n }; name = x }) e2 ∙ ap (λ (n : List ℕ). record { interface = y.interface; name = n }) e1)
        other q false apart =
            record {
              id = q.id;
              found = ap (λ (es : List NameEntry). type_named es y.name) is ∙ named-other s.names x (type_id (length s.rows)) y.name apart ∙ q.found;
              named = q.named;
              lower = q.lower;
              upper = omega (arith, q.upper);
              here = q.here;
            }

        by : (t.0 < length at.indices) ⊎ (t.0 ≡ length at.indices) → NamesType table start k (length at.indices + 1) s2 y
        by (inl l) = other (has.names t y low l e) (bytes_eq y.name x) refl
        by (inr q) =
            let is : Some (record { interface = record { 0 = k }; name = x }) ≡ Some y =
            sym told ∙ ap (λ (o : Option Definition). name_of (type_of o)) (sym here) ∙ ap (λ (n : ℕ). name_of (type_of (slice_get table n))) (sym q) ∙ e in
            this cc

  module _ (at : Place) (s : InstanceRead) (has : HasRead table start k at s) where
    pub unnamed-kept : (what : TypeDefKind) → row_types (inner_row what) ≡ 1 → slice_get table (length at.indices) ≡ Some (inner_row what)
        → HasRead table start k (place_after at (inner_row what)) (with_unnamed s what)
    unnamed-kept what one here =
        kept at s has (inner_row what) here (with_unnamed s what) (Some (type_id (length s.rows)) ∷ []) refl refl (length-append s.rows _) (sym one)
        (λ typed. ap (λ (n : ℕ). Some (type_id n)) has.rows)
        (nameless at s has (inner_row what) here (with_unnamed s what) refl refl)

    pub defined-kept : (x : List ℕ) (what : TypeDefKind) → defined_types what ≡ 1 → slice_get table (length at.indices) ≡ Some (named_row k x what)
        → (told : TypeDefKind) → HasRead table start k (place_after at (named_row k x what)) (with_named k x told (with_index s))
    defined-kept x what one here told =
        kept at s has (named_row k x what) here (with_named k x told (with_index s)) (None ∷ Some (type_id (length s.rows)) ∷ []) refl
        (append_assoc s.indices (None ∷ []) (Some (type_id (length s.rows)) ∷ [])) (length-append s.rows _) (ap (λ n. n + 1) (sym one))
        (λ typed. ap (row_at (None ∷ Some (type_id (length s.rows)) ∷ [])) one ∙ ap (λ (n : ℕ). Some (type_id n)) has.rows)
        (named-more at s has (named_row k x what) here (with_named k x told (with_index s)) x refl refl)

    pub renamed-kept : (x : List ℕ) (t : TypeId) → slice_get table (length at.indices) ≡ Some (named_row k x (alias_to t))
        → HasRead table start k (place_after at (named_row k x (alias_to t))) (with_named k x (alias_to t) s)
    renamed-kept x t here =
        kept at s has (named_row k x (alias_to t)) here (with_named k x (alias_to t) s) (Some (type_id (length s.rows)) ∷ []) refl refl (length-append s.rows _) refl
        (λ typed. ap (λ (n : ℕ). Some (type_id n)) has.rows)
        (named-more at s has (named_row k x (alias_to t)) here (with_named k x (alias_to t) s) x refl refl)

    -- a function, of an interface or of a world
    abbrev with_functions : Definition → List FunctionId → InstanceRead
    with_functions d functions = record {
      rows = s.rows ++ d ∷ [];
      indices = s.indices ++ None ∷ [];
      awaited = Nothing;
      names = s.names;
      uses = s.uses;
      types = s.types;
      functions = functions;
    }

    pub function-kept : (f : Function) (functions : List FunctionId) → slice_get table (length at.indices) ≡ Some (row.Function f)
        → HasRead table start k (place_after at (row.Function f)) (with_functions (row.Function f) functions)
    function-kept f functions here =
        kept at s has (row.Function f) here (with_functions (row.Function f) functions) (None ∷ []) refl refl (length-append s.rows _) refl
        (λ typed. absurd (cc))
        (nameless at s has (row.Function f) here (with_functions (row.Function f) functions) refl refl)
