-- Over the items of a world: their declarations have their indices in range.
use Rattle.std.proofs.Common.{◌≡◌, ℕ, suc, ◌+◌, ◌-◌, ◌<◌, ◌≤◌, true, false, not, List, [], ◌∷◌, ◌++◌, take, drop, length, slice_get, slice_index, slice_index_or, Option, None, Some, is_some, refl, sym, ap, subst, ◌∙◌, arith, append_assoc}
use Rattle.std.specs.List.{list_all}
use Rattle.std.proofs.lemmas.List.Folds.{list_all-append}
use Rattle.ctype_format.specs.Raw.{Decl}
use Rattle.ctype_format.specs.View.{decls_of}
use Rattle.ctype_format.specs.Formed.{All}
use Rattle.ctype_format.specs.declared.raw.RawDescription.{RawDescription}
use Rattle.ctype_format.specs.declared.raw.RawDescription.TheVariants as described
use Rattle.ctype_bin.specs.InRange.{DescriptionInRange, DeclsInRange, described_types, instances_with}
use Rattle.tables.specs.Tables.{type_of, function_of, definition_below, are_earlier, is_function_of, is_placed_item}
use Rattle.tables.specs.declared.tables.TypeName.{TypeName}
use Rattle.tables.specs.declared.tables.Function.{Function}
use Rattle.tables.specs.declared.tables.Direction.{Direction}
use Rattle.tables.specs.declared.tables.Direction.TheVariants as direction
use Rattle.tables.specs.declared.tables.Definition.{Definition}
use Rattle.tables.specs.declared.tables.Definition.TheVariants as row
use Rattle.tables.specs.declared.tables.WorldItemKind.{WorldItemKind}
use Rattle.tables.specs.declared.tables.WorldItemKind.TheVariants as item
use Rattle.tables.specs.declared.tables.WorldItem.{WorldItem}
use Rattle.package_form.specs.Ends.{behind_item, behind_items}
use Rattle.package_form.specs.Form.{is_own, is_nameless, is_of_world, is_world_row}
use Rattle.package_form.specs.Postfix.{is_unnamed, one_if}
use Rattle.package_form.specs.References.{row_references}
use Rattle.package_form.specs.Unused.{inner_rows, can_use, closes, is_next, unused_after, are_used}
use Rattle.package_form.proofs.LaterRowsChangeNothing.{row-before}
use Rattle.package_form.proofs.AllAndContains.{list-grows}
use Rattle.package_form.proofs.PostfixIsDecided.{ends}
use Rattle.tables.proofs.ClosedTypesRowByRow.{split}
use Rattle.package_form.specs.Reached.{name_of}
use Rattle.wit_component.specs.Rows.{Place, outer_alias, place_after, declarations_of, places_after}
use Rattle.wit_component.specs.Worlds.{directed, rows_between, function_declared, Surroundings, items_declared, items_place, StandFrom}
use Rattle.wit_component.proofs.AcceptedComponents.DeclaredRows.{is_use_def, CanStand, IsKnown, signature-range, row-range}
use Rattle.wit_component.proofs.AcceptedComponents.StatesBeforeRows.{State, closed-stands, row-known, state-next}
use Rattle.wit_component.proofs.AcceptedComponents.RowsOfInterfaces.{get-drop, use-named, named-closes}
use Rattle.wit_component.proofs.DeclarationsRowByRow.{places-append}
use Rattle.wit_component.proofs.WorldItemsStandInOrder.{nameless-own}
use Rattle.wit_component.proofs.InterfaceRows.RowsBetweenPlaces.{end-length, rest-is, first-row, cut-own, more-rows}

-- an import and an export have the same range
pub directed-range : (around : List ℕ) (types instances : ℕ) (way : Direction) (name : List ℕ) (d : RawDescription) (rest : List Decl) → DescriptionInRange types d
    → DeclsInRange around (described_types types d) (instances_with instances d) (decls_of rest) → DeclsInRange around types instances (decls_of (directed way name d ∷ rest))
unfolding DeclsInRange
directed-range around types instances direction.Import name d rest own h = (own, h)
directed-range around types instances direction.Export name d rest own h = (own, h)

-- where the component type around has so many types, behind k interfaces; the worlds' rows are those of world w
module _ (rows : List Definition) (k count w : ℕ) where
  abbrev Ranged : ℕ → ℕ → List Decl → Type 0
  Ranged types instances ds = DeclsInRange (0 ∷ count ∷ []) types instances (decls_of ds)

  -- before these rows, the first of which stands at place n
  pub record BeforeRows (n : ℕ) (at : Place) (unused : List ℕ) (ds : List Definition) : Type 0 where
    pub here : drop n rows ≡ ds
    pub earlier : are_earlier n ds ≡ true
    pub used : are_used rows n unused ds ≡ true
    pub state : State rows k n at unused

  no-names : (d : Definition) → is_of_world w d ≡ true → (m : TypeName) → name_of (type_of (Some d)) ≡ Some m → m.interface.0 ≡ k
  no-names (row.Function f) h m e = absurd (cc)
  no-names (row.Type d) h m e = by d.name h e
    where
      by : (o : Option TypeName) → not (is_some o) ≡ true → o ≡ Some m → m.interface.0 ≡ k
      by None h e = absurd (cc)
      by (Some x) h e = absurd (cc)

  no-use : (d : Definition) → is_of_world w d ≡ true → CanStand d → is_use_def d ≡ true → ⊥
  no-use (row.Function f) h stands is = absurd (cc)
  no-use (row.Type d) h stands is = use-named (row.Type d) is stands h

  module _ (n : ℕ) (at : Place) (unused : List ℕ) (d : Definition) (ds : List Definition) (before : BeforeRows n at unused (d ∷ ds)) (own : is_world_row rows w d ≡ true) where
    here : (slice_get rows n ≡ Some d) × (drop (suc n) rows ≡ ds)
    here = get-drop rows n d ds before.here

    earlier : (definition_below n d ≡ true) × (are_earlier (n + 1) ds ≡ true)
    earlier = split (definition_below n d) (are_earlier (n + 1) ds) before.earlier

    used : (is_next unused (inner_rows rows d) d ≡ true) × (are_used rows (n + 1) (unused_after n unused (inner_rows rows d) d) ds ≡ true)
    used = split (is_next unused (inner_rows rows d) d) (are_used rows (n + 1) (unused_after n unused (inner_rows rows d) d) ds) before.used

    cut : (unused ≡ take (length unused - length (inner_rows rows d)) unused ++ inner_rows rows d) × (closes d (length unused - length (inner_rows rows d)) ≡ true)
    cut = let s = split _ _ (split (can_use d (inner_rows rows d)) _ used.0).1 in (ends unused (inner_rows rows d) s.0, s.1)

    parts : (is_of_world w d ≡ true) × (list_all (is_nameless rows) (row_references d) ≡ true)
    parts = split (is_of_world w d) (list_all (is_nameless rows) (row_references d)) own

    refs : list_all (is_own rows k) (row_references d) ≡ true
    refs = list-grows (is_nameless rows) (is_own rows k) (nameless-own rows k) (row_references d) parts.1

    pub stands : CanStand d
    stands = closed-stands d (length unused - length (inner_rows rows d)) cut.1

    pub known : All (IsKnown at.indices at.types) (row_references d)
    known = row-known rows k n at unused before.state d here.0 refs (no-names d parts.0) stands (row-before n d earlier.0) cut.0

    pub plain : is_use_def d ≡ true → at.used < count
    plain is = absurd (no-use d parts.0 stands is)

    pub next : BeforeRows (n + 1) (place_after at d) (unused_after n unused (inner_rows rows d) d) ds
    next = record {
      here = let e : n + 1 ≡ suc n = omega arith in ap (λ m. drop m rows) e ∙ here.1;
      earlier = earlier.1;
      used = used.1;
      state = state-next rows k n at unused before.state d here.0 refs (no-names d parts.0) stands cut.0;
    }

    -- behind a function no row without a name is unused
    pub none-after : is_unnamed d ≡ false → unused_after n unused (inner_rows rows d) d ≡ []
    none-after named =
        ap (λ m. take m unused ++ one_if (is_unnamed d) n) (named-closes d (length unused - length (inner_rows rows d)) named cut.1) ∙ ap (λ b. one_if b n) named

  -- behind these rows
  pub record Behind (n : ℕ) (at : Place) (ds es : List Definition) : Type 0 where
    pub unused : List ℕ
    pub before : BeforeRows (n + length ds) (places_after at ds) unused es
    pub range : (instances : ℕ) (rest : List Decl) → Ranged (places_after at ds).types instances rest → Ranged at.types instances (declarations_of at ds ++ rest)

  rows-range : (ds es : List Definition) (n : ℕ) (at : Place) (unused : List ℕ) → BeforeRows n at unused (ds ++ es) → list_all (is_world_row rows w) ds ≡ true → Behind n at ds es
  rows-range [] es n at unused before own =
      let same : n ≡ n + 0 = omega arith in
      record { unused = unused; before = subst (λ (m : ℕ). BeforeRows m at unused es) same before; range = λ instances rest h. h }
  rows-range (d ∷ ds) es n at unused before own =
      let s = split (is_world_row rows w d) (list_all (is_world_row rows w) ds) own in
      let after = rows-range ds es (n + 1) (place_after at d) (unused_after n unused (inner_rows rows d) d) (next n at unused d (ds ++ es) before s.0) s.1 in
      let same : n + 1 + length ds ≡ n + length (d ∷ ds) = omega arith in
      record {
        unused = after.unused;
        before = subst (λ (m : ℕ). BeforeRows m (places_after (place_after at d) ds) after.unused es) same after.before;
        range = λ instances rest h.
            subst (λ (xs : List Decl). Ranged at.types instances xs) (sym (append_assoc _ (declarations_of (place_after at d) ds) rest))
            (row-range count instances at d (declarations_of (place_after at d) ds ++ rest) (known n at unused d (ds ++ es) before s.0) (plain n at unused d (ds ++ es) before s.0) (after.range instances rest h));
      }

  -- ---- a function, and the rows that it is made of

  -- a function's own row
  function-range : (at : Place) (way : Direction) (o : Option Function) (f : Function) → o ≡ Some f → (instances : ℕ) (rest : List Decl)
      → All (IsKnown at.indices at.types) (row_references (row.Function f)) → Ranged (at.types + 1) instances rest → Ranged at.types instances (function_declared at way o ++ rest)
  unfolding DeclsInRange
  function-range at way o f e instances rest known h =
      subst (λ (p : Option Function). Ranged at.types instances (function_declared at way p ++ rest)) (sym e)
      (signature-range at.indices at.types f known, directed-range (0 ∷ count ∷ []) (at.types + 1) instances way f.name (described.Function at.types) rest (omega arith) h)

  pub record FunctionBehind (n : ℕ) (at : Place) (way : Direction) (f : ℕ) : Type 0 where
    pub before : BeforeRows (f + 1) (places_after at (rows_between rows n (f + 1))) [] (drop (f + 1) rows)
    pub range : (instances : ℕ) (rest : List Decl) → Ranged (places_after at (rows_between rows n (f + 1))).types instances rest
        → Ranged at.types instances ((declarations_of at (rows_between rows n f) ++ function_declared (places_after at (rows_between rows n f)) way (function_of (slice_get rows f))) ++ rest)

  module _ (n : ℕ) (at : Place) (way : Direction) (f end : ℕ) (before : BeforeRows n at [] (drop n rows)) (low : n ≤ f) (up : f < end) (within : f < length rows)
      (is : is_function_of w (function_of (slice_get rows f)) ≡ true) (own : list_all (is_world_row rows w) (rows_between rows n end) ≡ true) where
    abbrev inner : List Definition
    inner = rows_between rows n f

    last : (d : Definition) × (drop f rows ≡ d ∷ drop (f + 1) rows) × (slice_get rows f ≡ Some d)
    last = first-row rows f within

    owns : (list_all (is_world_row rows w) inner ≡ true) × (list_all (is_world_row rows w) (last.0 ∷ rows_between rows (f + 1) end) ≡ true)
    owns =
        split (list_all (is_world_row rows w) inner) (list_all (is_world_row rows w) (last.0 ∷ rows_between rows (f + 1) end))
        (sym (list_all-append (is_world_row rows w) inner (last.0 ∷ rows_between rows (f + 1) end)) ∙ sym (ap (list_all (is_world_row rows w)) (cut-own rows n f end last.0 low up last.1)) ∙ own)

    pub later-own : list_all (is_world_row rows w) (rows_between rows (f + 1) end) ≡ true
    later-own = (split (is_world_row rows w last.0) _ owns.1).1

    inside : Behind n at inner (drop f rows)
    inside = rows-range inner (drop f rows) n at [] (subst (λ ds. BeforeRows n at [] ds) (rest-is rows n f low) before) owns.0

    at-last : BeforeRows f (places_after at inner) inside.unused (last.0 ∷ drop (f + 1) rows)
    at-last =
        subst (λ ds. BeforeRows f (places_after at inner) inside.unused ds) last.1
        (subst (λ m. BeforeRows m (places_after at inner) inside.unused (drop f rows)) (end-length rows n f low within) inside.before)

    function-is : (d : Definition) → slice_get rows f ≡ Some d → (g : Function) × (d ≡ row.Function g)
    function-is d e = by d (ap (λ (o : Option Definition). is_function_of w (function_of o)) (sym e) ∙ is)
      where
        by : (d : Definition) → is_function_of w (function_of (Some d)) ≡ true → (g : Function) × (d ≡ row.Function g)
        by (row.Type d) h = absurd (cc)
        by (row.Function g) h = (g, refl)

    pub function-behind : FunctionBehind n at way f
    function-behind =
        let g = function-is last.0 last.2 in
        let own-row = (split (is_world_row rows w last.0) _ owns.1).0 in
        let named : is_unnamed last.0 ≡ false = ap is_unnamed g.1 in
        let place : places_after at (rows_between rows n (f + 1)) ≡ place_after (places_after at inner) last.0 = ap (places_after at) (more-rows rows n f last.0 low last.1) ∙ places-append at inner (last.0 ∷ []) in
        let after : BeforeRows (f + 1) (place_after (places_after at inner) last.0) [] (drop (f + 1) rows) =
        subst (λ us. BeforeRows (f + 1) (place_after (places_after at inner) last.0) us (drop (f + 1) rows)) (none-after f (places_after at inner) inside.unused last.0 (drop (f + 1) rows) at-last own-row named)
        (next f (places_after at inner) inside.unused last.0 (drop (f + 1) rows) at-last own-row) in
        let told : function_of (slice_get rows f) ≡ Some g.0 = ap function_of last.2 ∙ ap (λ (d : Definition). function_of (Some d)) g.1 in
        let known-refs : All (IsKnown (places_after at inner).indices (places_after at inner).types) (row_references (row.Function g.0)) =
        subst (λ (d : Definition). All (IsKnown (places_after at inner).indices (places_after at inner).types) (row_references d)) g.1
        (known f (places_after at inner) inside.unused last.0 (drop (f + 1) rows) at-last own-row) in
        let one : place_after (places_after at inner) last.0 ≡ place_after (places_after at inner) (row.Function g.0) = ap (place_after (places_after at inner)) g.1 in
        record {
          before = subst (λ (p : Place). BeforeRows (f + 1) p [] (drop (f + 1) rows)) (sym place) after;
          range = λ instances rest h.
              subst (λ (xs : List Decl). Ranged at.types instances xs)
              (sym (append_assoc (declarations_of at inner) (function_declared (places_after at inner) way (function_of (slice_get rows f))) rest))
              (inside.range instances (function_declared (places_after at inner) way (function_of (slice_get rows f)) ++ rest)
              (function-range (places_after at inner) way (function_of (slice_get rows f)) g.0 told instances rest known-refs
              (subst (λ (p : Place). Ranged p.types instances rest) (place ∙ one) h)));
        }

  -- ---- all items

  behind-low : (is : List WorldItem) (n : ℕ) → StandFrom k rows n is → n ≤ behind_items n is
  behind-low [] n h = omega arith
  behind-low (i ∷ is) n h = by i.kind h (λ n h. behind-low is n h)
    where
      by : (what : WorldItemKind) → StandFrom k rows n (record { direction = i.direction; kind = what } ∷ is) → ((n : ℕ) → StandFrom k rows n is → n ≤ behind_items n is) → n ≤ behind_items (behind_item n what) is
      by (item.Interface x) h again = again n h.1
      by (item.Function f) h again = omega (arith, h.0.0, again (f.0 + 1) h.1)

  -- an alias takes one type index
  alias-before : (n : ℕ) (at : Place) → BeforeRows n at [] (drop n rows) → BeforeRows n (record { indices = at.indices; types = at.types + 1; used = at.used }) [] (drop n rows)
  alias-before n at before = record {
    here = before.here;
    earlier = before.earlier;
    used = before.used;
    state = record {
      long = before.state.long;
      known = λ t m lt named own. let l = before.state.known t m lt named own in omega (arith, l);
      inner = tt;
      before = before.state.before;
    };
  }

  module _ (names : List (List ℕ)) (instances : List ℕ) (known-instances : (i : ℕ) → i < k → slice_index instances i < count) where
    abbrev around : Surroundings
    around = record { rows = rows; names = names; instances = instances }

    pub record ItemsBehind (n : ℕ) (at : Place) (is : List WorldItem) : Type 0 where
      pub before : BeforeRows (behind_items n is) (items_place rows at n is) [] (drop (behind_items n is) rows)
      pub range : (so_many : ℕ) → Ranged at.types so_many (items_declared around at n is)

    interface-range : (at : Place) (way : Direction) (i so_many : ℕ) (rest : List Decl) → i < k → Ranged (at.types + 1) (so_many + 1) rest
        → Ranged at.types so_many (outer_alias (slice_index instances i) ∷ directed way (slice_index_or names i []) (described.Instance at.types) ∷ rest)
    unfolding DeclsInRange
    interface-range at way i so_many rest low h =
        ((omega arith, known-instances i low), directed-range (0 ∷ count ∷ []) (at.types + 1) so_many way (slice_index_or names i []) (described.Instance at.types) rest (omega arith) h)

    pub items-range : (is : List WorldItem) (n : ℕ) (at : Place) (end : ℕ) → BeforeRows n at [] (drop n rows) → StandFrom k rows n is
        → list_all (λ i. is_placed_item rows k w i.kind) is ≡ true → list_all (is_world_row rows w) (rows_between rows n end) ≡ true → behind_items n is ≤ end → ItemsBehind n at is
    unfolding DeclsInRange
    items-range [] n at end before stand placed own up = record { before = before; range = λ so_many. tt }
    items-range (i ∷ is) n at end before stand placed own up =
        by i.kind stand (split (is_placed_item rows k w i.kind) _ placed).0 up (λ n at before stand own up. items-range is n at end before stand others own up)
      where
        others : list_all (λ i. is_placed_item rows k w i.kind) is ≡ true
        others = (split (is_placed_item rows k w i.kind) _ placed).1

        by : (what : WorldItemKind) → StandFrom k rows n (record { direction = i.direction; kind = what } ∷ is) → is_placed_item rows k w what ≡ true
            → behind_items (behind_item n what) is ≤ end
            → ((n : ℕ) (at : Place) → BeforeRows n at [] (drop n rows) → StandFrom k rows n is → list_all (is_world_row rows w) (rows_between rows n end) ≡ true → behind_items n is ≤ end → ItemsBehind n at is)
            → ItemsBehind n at (record { direction = i.direction; kind = what } ∷ is)
        by (item.Interface x) stand given up again =
            let after : Place = record { indices = at.indices; types = at.types + 1; used = at.used } in
            let more = again n after (alias-before n at before) stand.1 own up in
            record {
              before = more.before;
              range = λ so_many. interface-range at i.direction x.0 so_many (items_declared around after n is) stand.0 (more.range (so_many + 1));
            }
        by (item.Function f) stand given up again =
            let low = behind-low is (f.0 + 1) stand.1 in
            let inside : f.0 < end = omega (arith, low, up) in
            let one = function-behind n at i.direction f.0 end before stand.0.0 inside stand.0.1 given own in
            let after = places_after at (rows_between rows n (f.0 + 1)) in
            let more = again (f.0 + 1) after one.before stand.1 (later-own n at i.direction f.0 end before stand.0.0 inside stand.0.1 given own) up in
            record {
              before = more.before;
              range = λ so_many. one.range so_many (items_declared around after (f.0 + 1) is) (more.range so_many);
            }
