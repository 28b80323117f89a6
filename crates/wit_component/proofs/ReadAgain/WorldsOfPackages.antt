-- The declarations of one world, read again.
use Rattle.std.proofs.Common.{◌≡◌, ◌≤◌, ◌<◌, ℕ, suc, ◌+◌, ◌-◌, Bool, true, false, cond, not, List, [], ◌∷◌, ◌++◌, flat_map, take, drop, length, slice_get, slice_index, slice_index_or, Option, None, Some, is_some, refl, ap, sym, subst, ◌∙◌, arith, append_assoc, append-nil, length-append, nat_eq, ◌==◌}
use Rattle.std.specs.List.{list_all}
use Rattle.std.specs.Option.{option_map}
use Rattle.std.specs.List.{ends_with}
use Rattle.std.proofs.lemmas.Bool.{ltb-true, eqb-true}
use Rattle.std.proofs.lemmas.List.{drop-drop}
use Rattle.ctype_format.specs.Formed.{All}
use Rattle.std.proofs.lemmas.List.Folds.{list_all-append}
use Rattle.atoms.specs.Label.{is_label}
use Rattle.ctype_format.specs.Raw.{Decl, Entry, Alias, Import, Export}
use Rattle.ctype_format.specs.View.{decls_of}
use Rattle.ctype_format.specs.declared.raw.RawDescription.{RawDescription}
use Rattle.ctype_format.specs.declared.raw.RawDescription.TheVariants as described
use Rattle.tables.specs.Tables.{function_of, definition_below, are_earlier, is_function_of, is_owner_world, is_placed_item}
use Rattle.tables.specs.declared.tables.TypeId.{TypeId}
use Rattle.tables.specs.declared.tables.TypeDefKind.{TypeDefKind}
use Rattle.tables.specs.declared.tables.TypeDefKind.TheVariants as kind
use Rattle.tables.specs.declared.tables.TypeName.{TypeName}
use Rattle.tables.specs.declared.tables.InterfaceId.{InterfaceId}
use Rattle.tables.specs.declared.tables.Owner.{Owner}
use Rattle.tables.specs.declared.tables.Owner.TheVariants as owner
use Rattle.tables.specs.declared.tables.Function.{Function}
use Rattle.tables.specs.declared.tables.Direction.{Direction}
use Rattle.tables.specs.declared.tables.Direction.TheVariants as direction
use Rattle.tables.specs.declared.tables.Definition.{Definition}
use Rattle.tables.specs.declared.tables.Definition.TheVariants as row
use Rattle.tables.specs.declared.tables.WorldItem.{WorldItem}
use Rattle.tables.specs.declared.tables.WorldItemKind.{WorldItemKind}
use Rattle.tables.specs.declared.tables.WorldItemKind.TheVariants as item
use Rattle.tables.proofs.ClosedTypesRowByRow.{split, both}
use Rattle.package_form.specs.Ends.{behind_item, behind_items}
use Rattle.package_form.specs.Form.{is_named, functions_in_item, is_own, is_owned, is_local, is_nameless, is_of_world, is_world_row}
use Rattle.package_form.specs.Ids.{function_id, places_where}
use Rattle.package_form.specs.Postfix.{is_unnamed, is_inner, inner_row}
use Rattle.package_form.specs.References.{row_references}
use Rattle.package_form.specs.Unused.{inner_rows, can_use, closes, is_next, unused_after, are_used}
use Rattle.package_form.proofs.LaterRowsChangeNothing.{row-before}
use Rattle.package_form.proofs.AllAndContains.{list-grows}
use Rattle.component_reader.specs.Instance.{if_found, Nothing, AFunction, InstanceRead, settled, settled_as, awaiting, with_index, with_row, defined_read, decls_read}
use Rattle.component_reader.specs.World.{WorldRead, with_inside, item_of, world_function, with_world_function, function_named, interface_index, awaiting_interface, interface_met, with_interface_item, named_read, item_read, items_read}
use Rattle.wit_component.specs.Rows.{Place, row_declarations, place_after, declarations_of, places_after}
use Rattle.wit_component.specs.ToComponent.{is_labelled}
use Rattle.wit_component.specs.Worlds.{directed, rows_between, function_declared, Surroundings, item_declarations, item_place, items_declared, items_place}
use Rattle.wit_component.proofs.AlikeRows.{AreAlike, same, none, one_more}
use Rattle.wit_component.proofs.AcceptedComponents.DeclaredRows.{is_use_def}
use Rattle.wit_component.proofs.ReadAgain.Interfaces.{alike-append, KnowsInterfaces}
use Rattle.wit_component.proofs.ReadAgain.KeptAfterOneRow.{row-at-more, function-kept}
use Rattle.wit_component.proofs.InterfaceRows.RowsStandInOrder.{StandAt}
use Rattle.wit_component.proofs.ReadAgain.ReadableRows.{is_inside, rows_after, rests, HasRead}
use Rattle.wit_component.proofs.InterfaceRows.FactsOfRows.{NameEarlier, HasFacts, facts-more, refs-inside, inner-since, rows-readable}
use Rattle.wit_component.proofs.ReadAgain.OneRow.{signature-read}
use Rattle.wit_component.proofs.ReadAgain.RowsOfInterfaces.{AreRowsRead, rows-read, found-then}
use Rattle.wit_component.proofs.ReadAgain.IdsAfterRows.{rows-rows, alike-length}
use Rattle.wit_component.proofs.AcceptedComponents.RowsOfInterfaces.{get-drop, named-closes}
use Rattle.wit_component.proofs.DeclarationsRowByRow.{places-append}
use Rattle.wit_component.proofs.InterfaceRows.FactsOfInterfaces.{earlier-parts}
use Rattle.wit_component.proofs.WorldItemsStandInOrder.{nameless-own}

-- ---- definitions, which are read as those of an instance type

abbrev AreEntries : List Decl → Type 0
AreEntries [] = Unit {0}
AreEntries (Entry t ∷ ds) = AreEntries ds
AreEntries (Alias a ∷ ds) = ⊥
AreEntries (Import n d ∷ ds) = ⊥
AreEntries (Export n d ∷ ds) = ⊥

module _ (instances : List (Option InterfaceId)) (w : ℕ) (around : List (Option TypeId)) (k : ℕ) where
  -- .. and what follows them
  entries-read : (xs more : List Decl) → AreEntries xs → (s : WorldRead) (i : InstanceRead)
      → items_read instances w (decls_of (xs ++ more)) (with_inside s i) ≡ if_found (decls_read around k (decls_of xs) i) (λ j. items_read instances w (decls_of more) (with_inside s j))
  entries-read [] more h s i = refl
  entries-read (Entry t ∷ xs) more h s i = by (if_found (settled i) (defined_read t)) (λ j. entries-read xs more h s j)
    where
      by : (o : Option InstanceRead)
          → ((j : InstanceRead) → items_read instances w (decls_of (xs ++ more)) (with_inside s j) ≡ if_found (decls_read around k (decls_of xs) j) (λ j. items_read instances w (decls_of more) (with_inside s j)))
          → if_found (option_map (with_inside (with_inside s i)) o) (items_read instances w (decls_of (xs ++ more)))
          ≡ if_found (if_found o (decls_read around k (decls_of xs))) (λ j. items_read instances w (decls_of more) (with_inside s j))
      by None again = refl
      by (Some j) again = again j
  entries-read (Alias a ∷ xs) more h s i = absurd h
  entries-read (Import n d ∷ xs) more h s i = absurd h
  entries-read (Export n d ∷ xs) more h s i = absurd h

entries-append : (xs ys : List Decl) → AreEntries xs → AreEntries ys → AreEntries (xs ++ ys)
entries-append [] ys h q = q
entries-append (Entry t ∷ xs) ys h q = entries-append xs ys h q
entries-append (Alias a ∷ xs) ys h q = absurd h
entries-append (Import n d ∷ xs) ys h q = absurd h
entries-append (Export n d ∷ xs) ys h q = absurd h

inner-entries : (at : Place) (what : TypeDefKind) → is_inner what ≡ true → AreEntries (row_declarations at (inner_row what))
inner-entries at (kind.List v) h = tt
inner-entries at (kind.Option v) h = tt
inner-entries at (kind.Result v w) h = tt
inner-entries at (kind.Tuple vs) h = tt
inner-entries at (kind.Use t) h = absurd (cc)
inner-entries at (kind.Alias v) h = absurd (cc)
inner-entries at (kind.Record fs) h = absurd (cc)
inner-entries at (kind.Variant cs) h = absurd (cc)
inner-entries at (kind.Enum ns) h = absurd (cc)
inner-entries at (kind.Flags ns) h = absurd (cc)

-- a row is a type without a name that can stand so
abbrev IsInner : Definition → Type 0
IsInner d = (what : TypeDefKind) × (d ≡ inner_row what) × (is_inner what ≡ true)

all-entries : (at : Place) (ds : List Definition) → All IsInner ds → AreEntries (declarations_of at ds)
all-entries at [] h = tt
all-entries at (d ∷ ds) h =
    entries-append (row_declarations at d) (declarations_of (place_after at d) ds)
    (subst (λ (e : Definition). AreEntries (row_declarations at e)) (sym h.0.1) (inner-entries at h.0.0 h.0.2)) (all-entries (place_after at d) ds h.1)

-- ---- the rows that a function is made of

inner-plain : (what : TypeDefKind) → is_inner what ≡ true → not (is_use_def (inner_row what)) ≡ true
inner-plain (kind.Use t) h = absurd (cc)
inner-plain _ h = refl

inner-earlier : (table : List Definition) (k : ℕ) (what : TypeDefKind) → is_inner what ≡ true → is_owned table k (inner_row what) ≡ true
inner-earlier table k (kind.Use t) h = absurd (cc)
inner-earlier table k _ h = refl

all-plain : (ds : List Definition) → All IsInner ds → list_all (λ d. not (is_use_def d)) ds ≡ true
all-plain [] h = refl
all-plain (d ∷ ds) h = both _ _ (ap (λ (e : Definition). not (is_use_def e)) h.0.1 ∙ inner-plain h.0.0 h.0.2) (all-plain ds h.1)

drop-behind : (table : List Definition) (n : ℕ) (front rest : List Definition) → drop n table ≡ front ++ rest → drop (n + length front) table ≡ rest
drop-behind table n front rest e = sym (drop-drop (length front) n table) ∙ ap (drop (length front)) e ∙ drop-append-length front rest
  where
    drop-append-length : (xs ys : List Definition) → drop (length xs) (xs ++ ys) ≡ ys
    drop-append-length [] ys = refl
    drop-append-length (x ∷ xs) ys = drop-append-length xs ys

between-front : (table : List Definition) (n : ℕ) (front rest : List Definition) → drop n table ≡ front ++ rest → rows_between table n (n + length front) ≡ front
between-front table n front rest e =
    let count : (n + length front) - n ≡ length front = omega arith in
    ap (λ m. take m (drop n table)) count ∙ ap (take (length front)) e ∙ take-append-length front
  where
    take-append-length : (xs : List Definition) → take (length xs) (xs ++ rest) ≡ xs
    take-append-length [] = refl
    take-append-length (x ∷ xs) = ap (λ ys. x ∷ ys) (take-append-length xs)

-- m is the place of the first row with a name, of rows that stand from place n on; the others' places are ms
record FirstNamed (n : ℕ) (ds : List Definition) (m : ℕ) (ms : List ℕ) : Type 0 where
  front : List Definition
  named : Definition
  rest : List Definition
  are : ds ≡ front ++ named ∷ rest
  unnamed : list_all is_unnamed front ≡ true
  place : m ≡ n + length front
  others : places_where is_named (m + 1) rest ≡ ms

first-named : (n : ℕ) (ds : List Definition) (m : ℕ) (ms : List ℕ) → places_where is_named n ds ≡ m ∷ ms → FirstNamed n ds m ms
first-named n [] m ms e = absurd (cc)
first-named n (d ∷ ds) m ms e = by (is_unnamed d) refl e (λ e. first-named (n + 1) ds m ms e)
  where
    by : (b : Bool) → is_unnamed d ≡ b → cond (not b) (n ∷ places_where is_named (n + 1) ds) (places_where is_named (n + 1) ds) ≡ m ∷ ms
        → (places_where is_named (n + 1) ds ≡ m ∷ ms → FirstNamed (n + 1) ds m ms) → FirstNamed n (d ∷ ds) m ms
    by false is e again =
        let same : n ≡ m = cc in
        let later : places_where is_named (n + 1) ds ≡ ms = cc in
        record { front = []; named = d; rest = ds; are = refl; unnamed = refl; place = omega (arith, same); others = ap (λ j. places_where is_named (j + 1) ds) (sym same) ∙ later }
    by true is e again =
        let h = again e in
        let place = h.place in
        record { front = d ∷ h.front; named = h.named; rest = h.rest; are = ap (λ xs. d ∷ xs) h.are; unnamed = both _ _ is h.unnamed; place = omega (arith, place); others = h.others }

module _ (table : List Definition) (w : ℕ) where
  row-inner : (d : Definition) (left : ℕ) → is_unnamed d ≡ true → closes d left ≡ true → IsInner d
  row-inner (row.Function f) left un h = absurd (cc)
  row-inner (row.Type d) left un h = by d.name un (sym (ap (λ b. cond b (is_inner d.kind) (left == 0)) un) ∙ h)
    where
      by : (o : Option TypeName) → not (is_some o) ≡ true → is_inner d.kind ≡ true → IsInner (row.Type (record { name = o; kind = d.kind }))
      by None un h = (d.kind, refl, h)
      by (Some n) un h = absurd (cc)

  all-inner : (ds rest : List Definition) (n : ℕ) (unused : List ℕ) → are_used table n unused (ds ++ rest) ≡ true → list_all is_unnamed ds ≡ true → All IsInner ds
  all-inner [] rest n unused used un = tt
  all-inner (d ∷ ds) rest n unused used un =
      let u = split (is_next unused (inner_rows table d) d) _ used in
      let s = split (is_unnamed d) (list_all is_unnamed ds) un in
      let closed = (split _ (closes d (length unused - length (inner_rows table d))) (split (can_use d (inner_rows table d)) _ u.0).1).1 in
      (row-inner d _ s.0 closed, all-inner ds rest (n + 1) (unused_after n unused (inner_rows table d) d) u.1 s.1)

  world-refs : (k : ℕ) (d : Definition) → is_world_row table w d ≡ true → list_all (is_own table k) (row_references d) ≡ true
  world-refs k d own = list-grows (is_nameless table) (is_own table k) (nameless-own table k) (row_references d) (split (is_of_world w d) (list_all (is_nameless table) (row_references d)) own).1

  all-local : (k : ℕ) (ds : List Definition) → All IsInner ds → list_all (is_world_row table w) ds ≡ true → list_all (is_local table k) ds ≡ true
  all-local k [] h own = refl
  all-local k (d ∷ ds) h own =
      let s = split (is_world_row table w d) (list_all (is_world_row table w) ds) own in
      both _ _ (both _ _ (ap (is_owned table k) h.0.1 ∙ inner-earlier table k h.0.0 h.0.2) (world-refs k d s.0)) (all-local k ds h.1 s.1)

-- these rows are those of the table from place n on
stands-from : (table ds es : List Definition) (n : ℕ) → drop n table ≡ ds ++ es → StandAt table n ds
stands-from table [] es n e = tt
stands-from table (d ∷ ds) es n e =
    let at = get-drop table n d (ds ++ es) e in
    let one : n + 1 ≡ suc n = omega arith in
    (at.0, stands-from table ds es (n + 1) (ap (λ m. drop m table) one ∙ at.1))

-- ---- a function

module _ (table : List Definition) (start k w : ℕ) (lows : NameEarlier table start k) where
  facts-end : (ds rest : List Definition) (n : ℕ) (unused : List ℕ) → HasFacts table start k n unused ds rest → (u : List ℕ) × HasFacts table start k (n + length ds) u [] rest
  facts-end [] rest n unused f = let same : n ≡ n + 0 = omega arith in (unused, subst (λ (m : ℕ). HasFacts table start k m unused [] rest) same f)
  facts-end (d ∷ ds) rest n unused f =
      let more = facts-end ds rest (n + 1) (unused_after n unused (inner_rows table d) d) (facts-more table start k n unused d ds rest f) in
      let same : n + 1 + length ds ≡ n + length (d ∷ ds) = omega arith in
      (more.0, subst (λ (m : ℕ). HasFacts table start k m more.0 [] rest) same more.1)

  -- the rows of a function, behind which others stand
  pub record FunctionRows (n : ℕ) (front : List Definition) (f : Function) (rest : List Definition) : Type 0 where
    pub here : drop n table ≡ front ++ row.Function f ∷ rest
    pub unnamed : list_all is_unnamed front ≡ true
    pub own : list_all (is_world_row table w) front ≡ true
    pub own_function : is_world_row table w (row.Function f) ≡ true
    pub labels : list_all is_labelled front ≡ true
    pub label : is_label f.name ≡ true
    pub earlier : are_earlier n (front ++ row.Function f ∷ rest) ≡ true
    pub used : are_used table n [] (front ++ row.Function f ∷ rest) ≡ true
    pub begins : start ≤ n

  module _ (n : ℕ) (front : List Definition) (f : Function) (rest : List Definition) (are : FunctionRows n front f rest) where
    inner : All IsInner front
    inner = all-inner table w front (row.Function f ∷ rest) n [] are.used are.unnamed

    earlier : (are_earlier n front ≡ true) × (are_earlier (n + length front) (row.Function f ∷ rest) ≡ true)
    earlier = earlier-parts n front (row.Function f ∷ rest) are.earlier

    facts : HasFacts table start k n [] front (row.Function f ∷ rest)
    facts = record {
      local = all-local table w k front inner are.own;
      labels = are.labels;
      earlier = earlier.0;
      used = are.used;
      since = refl;
      begins = are.begins;
    }

    end : (u : List ℕ) × HasFacts table start k (n + length front) u [] (row.Function f ∷ rest)
    end = facts-end front (row.Function f ∷ rest) n [] facts

    last : (is_next end.0 (inner_rows table (row.Function f)) (row.Function f) ≡ true)
        × (are_used table (n + length front + 1) (unused_after (n + length front) end.0 (inner_rows table (row.Function f)) (row.Function f)) rest ≡ true)
    last = split (is_next end.0 (inner_rows table (row.Function f)) (row.Function f)) _ end.1.used

    cut : (ends_with nat_eq end.0 (inner_rows table (row.Function f)) ≡ true) × (closes (row.Function f) (length end.0 - length (inner_rows table (row.Function f))) ≡ true)
    cut = split _ _ (split (can_use (row.Function f) (inner_rows table (row.Function f))) _ last.0).1

    pub refs : list_all (is_inside table start (n + length front)) (row_references (row.Function f)) ≡ true
    refs =
        refs-inside table start k (n + length front) lows (row_references (row.Function f)) (world-refs table w k (row.Function f) are.own_function)
        (row-before (n + length front) (row.Function f) (split (definition_below (n + length front) (row.Function f)) _ earlier.1).0)
        (inner-since table start k end.0 (inner_rows table (row.Function f)) cut.0 end.1.since)

    -- behind it no row without a name is unused
    pub later-used : are_used table (n + length front + 1) [] rest ≡ true
    later-used =
        let left = named-closes (row.Function f) (length end.0 - length (inner_rows table (row.Function f))) refl cut.1 in
        let none : unused_after (n + length front) end.0 (inner_rows table (row.Function f)) (row.Function f) ≡ [] = ap (λ m. take m end.0 ++ []) left in
        subst (λ us. are_used table (n + length front + 1) us rest ≡ true) none last.1

    pub later-earlier : are_earlier (n + length front + 1) rest ≡ true
    later-earlier = (split (definition_below (n + length front) (row.Function f)) _ earlier.1).1

    function-here : slice_get table (n + length front) ≡ Some (row.Function f)
    function-here = (get-drop table (n + length front) (row.Function f) rest (drop-behind table n front (row.Function f ∷ rest) are.here)).0

    -- ---- read again

    module _ (around : List (Option TypeId)) (at : Place) (s : InstanceRead) (here : length at.indices ≡ n) (has : HasRead table start k at s) where
      pub inside : AreRowsRead table around start k at s s front
      inside =
          rows-read table around start k n at.used front
          (rows-readable table start k around n at.used [] front (row.Function f ∷ rest) lows (stands-from table front (row.Function f ∷ rest) n are.here) facts (all-plain front inner))
          at here refl s s (rests s has.awaited) has

      -- what is read of those rows, once the last of them has no name
      abbrev settles : InstanceRead
      settles = rows_after k inside.rows s

      inside-rows : settles.rows ≡ s.rows ++ inside.rows
      inside-rows = rows-rows k inside.rows inside.own s

      abbrev place : Place
      place = places_after at front

      place-length : length place.indices ≡ n + length front
      place-length = sym inside.kept.rows ∙ ap length inside-rows ∙ length-append s.rows inside.rows ∙ omega (arith, has.rows, here, alike-length table (length at.indices) front inside.rows inside.alike)

      world-function : world_function w f.name f.params f.result ≡ row.Function f
      world-function =
          by f.owner (split (is_of_world w (row.Function f)) (list_all (is_nameless table) (row_references (row.Function f))) are.own_function).0
        where
          by : (o : Owner) → is_owner_world w o ≡ true → world_function w f.name f.params f.result ≡ row.Function (record { owner = o; name = f.name; params = f.params; result = f.result })
          by (owner.Interface i) h = absurd (cc)
          by (owner.World v) h = ap (λ (m : ℕ). world_function m f.name f.params f.result) (sym (eqb-true v.0 w h))

      abbrev done : InstanceRead
      done = with_world_function w f.name f.params f.result settles

      done-kept : HasRead table start k (place_after place (row.Function f)) done
      done-kept =
          subst (λ (d : Definition). HasRead table start k (place_after place (row.Function f)) (with_row d settles)) (sym world-function)
          (function-kept table start k place settles inside.kept f settles.functions (ap (slice_get table) place-length ∙ function-here))

      done-rows : done.rows ≡ s.rows ++ (inside.rows ++ row.Function f ∷ [])
      done-rows = (λ j. inside-rows j ++ world-function j ∷ []) ∙ append_assoc s.rows inside.rows (row.Function f ∷ [])

      done-alike : AreAlike table n (front ++ row.Function f ∷ []) (inside.rows ++ row.Function f ∷ [])
      done-alike =
          alike-append table n front inside.rows (row.Function f ∷ []) (row.Function f ∷ []) (subst (λ (m : ℕ). AreAlike table m front inside.rows) here inside.alike)
          (one_more (n + length front) (row.Function f) (row.Function f) [] [] (same (row.Function f)) (none (n + length front + 1)))

  -- ---- a world, where each of these interfaces is around it

  module _ (instances : List (Option InterfaceId)) (names : List (List ℕ)) (indices : List ℕ) (count : ℕ)
      (knows : KnowsInterfaces instances indices count) (full : (i : ℕ) → i < count → is_label (slice_index_or names i []) ≡ false) where
    abbrev around-it : Surroundings
    around-it = record { rows = table; names = names; instances = indices }

    directed-read : (way : Direction) (n : List ℕ) (d : RawDescription) (s : WorldRead) → item_read instances w (directed way n d) s ≡ named_read w way n d s
    directed-read direction.Import n d s = refl
    directed-read direction.Export n d s = refl

    abbrev Continues : List Decl → WorldRead → WorldRead → Type 0
    Continues ds s s2 = (more : List Decl) → items_read instances w (decls_of (ds ++ more)) s ≡ items_read instances w (decls_of more) s2

    -- an interface
    interface-read : (at : Place) (s : WorldRead) (way : Direction) (i : InterfaceId) → i.0 < count → s.inside.awaited ≡ Nothing
        → Continues (item_declarations around-it at 0 way (item.Interface i)) s (with_interface_item way (awaiting_interface s s.inside i) i)
    interface-read at s way i low rested more =
        let s2 = awaiting_interface s s.inside i in
        let name = slice_index_or names i.0 [] in
        let rest = items_read instances w (decls_of (directed way name (described.Instance at.types) ∷ more)) in
        ap (λ (o : Option InstanceRead). if_found (if_found o (λ (x : InstanceRead). option_map (awaiting_interface s x) (interface_index instances (slice_index indices i.0)))) rest) (ap (settled_as s.inside) rested)
        ∙ ap (λ (o : Option InterfaceId). if_found (option_map (awaiting_interface s s.inside) o) rest) (knows i.0 low)
        ∙ ap (λ (o : Option WorldRead). if_found o (items_read instances w (decls_of more))) (directed-read way name (described.Instance at.types) s2 ∙ ap (λ (b : Bool). cond b None (interface_met way s2)) (full i.0 low))

    interface-kept : (at : Place) (s : InstanceRead) → HasRead table start k at s → HasRead table start k (record { indices = at.indices; types = at.types + 1; used = at.used }) (with_index s)
    interface-kept at s has = record {
      awaited = has.awaited;
      types = length-append s.indices (None ∷ []) ∙ ap (λ n. n + 1) has.types;
      rows = has.rows;
      begins = has.begins;
      known = λ t h. row-at-more s.indices (None ∷ []) _ t (has.known t h);
      names = λ t y low up e. let q = has.names t y low up e in record { id = q.id; found = q.found; named = q.named; lower = q.lower; upper = q.upper; here = q.here };
    }

    -- a function, and the rows that it is made of
    function-read : (n : ℕ) (front : List Definition) (f : Function) (rest : List Definition) (are : FunctionRows n front f rest) (at : Place) (s : WorldRead) (here : length at.indices ≡ n)
        → (has : HasRead table start k at s.inside) → (way : Direction)
        → Continues (declarations_of at front ++ function_declared (places_after at front) way (Some f)) s
        (record { inside = done n front f rest are [] at s.inside here has; items = s.items ++ item_of way (item.Function (function_id (length (settles n front f rest are [] at s.inside here has).rows))) ∷ []; interface = s.interface })
    function-read n front f rest are at s here has way more =
        let read = inside n front f rest are [] at s.inside here has in
        let j = settles n front f rest are [] at s.inside here has in
        let p = places_after at front in
        let a = awaiting j (AFunction f.params f.result) in
        let named = directed way f.name (described.Function p.types) in
        let told = refs n front f rest are in
        let length-is = place-length n front f rest are [] at s.inside here has in
        ap (λ ds. items_read instances w (decls_of ds) s) (append_assoc (declarations_of at front) (function_declared p way (Some f)) more)
        ∙ entries-read instances w [] k (declarations_of at front) (function_declared p way (Some f) ++ more) (all-entries at front (inner n front f rest are)) s s.inside
        ∙ found-then (decls_read [] k (decls_of (declarations_of at front)) s.inside) read.state (λ j. items_read instances w (decls_of (function_declared p way (Some f) ++ more)) (with_inside s j)) read.read
        ∙ ap (λ (o : Option InstanceRead). if_found (option_map (with_inside s) o) (items_read instances w (decls_of (named ∷ more))))
        (signature-read table start k p read.state j read.settled read.kept f (subst (λ (m : ℕ). list_all (is_inside table start m) (row_references (row.Function f)) ≡ true) (sym length-is) told))
        ∙ ap (λ (o : Option WorldRead). if_found o (items_read instances w (decls_of more)))
        (directed-read way f.name (described.Function p.types) (with_inside s a) ∙ ap (λ (b : Bool). cond b (function_named w way f.name (with_inside s a) (AFunction f.params f.result)) None) are.label)

    -- ---- all items

    -- these rows of the world stand from place n on, and others behind them
    pub record WorldRows (n : ℕ) (ds es : List Definition) : Type 0 where
      pub here : drop n table ≡ ds ++ es
      pub own : list_all (is_world_row table w) ds ≡ true
      pub labels : list_all is_labelled ds ≡ true
      pub earlier : are_earlier n (ds ++ es) ≡ true
      pub used : are_used table n [] (ds ++ es) ≡ true
      pub begins : start ≤ n

    -- a function is read
    record StepRead (n : ℕ) (at : Place) (way : Direction) (f : ℕ) (ds es : List Definition) (s : WorldRead) : Type 0 where
      front : List Definition
      function : Function
      rest : List Definition
      are : ds ≡ front ++ row.Function function ∷ rest
      place : f ≡ n + length front
      state : WorldRead
      rows : List Definition
      alike : AreAlike table n (front ++ row.Function function ∷ []) rows
      told : state.inside.rows ≡ s.inside.rows ++ rows
      items : state.items ≡ s.items ++ item_of way (item.Function (function_id f)) ∷ []
      kept : HasRead table start k (item_place table at n (item.Function (function_id f))) state.inside
      read : Continues (item_declarations around-it at n way (item.Function (function_id f))) s state
      next : WorldRows (f + 1) rest es
      next_length : length (item_place table at n (item.Function (function_id f))).indices ≡ f + 1

    module _ (n : ℕ) (ds es : List Definition) (at : Place) (s : WorldRead) (are : WorldRows n ds es) (here : length at.indices ≡ n) (has : HasRead table start k at s.inside) (way : Direction)
        (f : ℕ) (ms : List ℕ) (first : FirstNamed n ds f ms) (is_function : is_function_of w (function_of (slice_get table f)) ≡ true) where
      ahead : drop n table ≡ first.front ++ first.named ∷ (first.rest ++ es)
      ahead = are.here ∙ ap (λ (xs : List Definition). xs ++ es) first.are ∙ append_assoc first.front (first.named ∷ first.rest) es

      at-f : slice_get table f ≡ Some first.named
      at-f = ap (slice_get table) first.place ∙ (get-drop table (n + length first.front) first.named (first.rest ++ es) (drop-behind table n first.front (first.named ∷ (first.rest ++ es)) ahead)).0

      function-is : (g : Function) × (first.named ≡ row.Function g)
      function-is = by first.named (ap (λ (o : Option Definition). is_function_of w (function_of o)) (sym at-f) ∙ is_function)
        where
          by : (d : Definition) → is_function_of w (function_of (Some d)) ≡ true → (g : Function) × (d ≡ row.Function g)
          by (row.Type d) h = absurd (cc)
          by (row.Function g) h = (g, refl)

      abbrev g : Function
      g = function-is.0

      parted : ds ≡ first.front ++ row.Function g ∷ first.rest
      parted = first.are ∙ ap (λ (d : Definition). first.front ++ d ∷ first.rest) function-is.1

      whole : ds ++ es ≡ first.front ++ row.Function g ∷ (first.rest ++ es)
      whole = ap (λ (xs : List Definition). xs ++ es) parted ∙ append_assoc first.front (row.Function g ∷ first.rest) es

      owns : (list_all (is_world_row table w) first.front ≡ true) × (list_all (is_world_row table w) (row.Function g ∷ first.rest) ≡ true)
      owns =
          split (list_all (is_world_row table w) first.front) (list_all (is_world_row table w) (row.Function g ∷ first.rest))
          (sym (list_all-append (is_world_row table w) first.front (row.Function g ∷ first.rest)) ∙ sym (ap (list_all (is_world_row table w)) parted) ∙ are.own)

      own-rest : (is_world_row table w (row.Function g) ≡ true) × (list_all (is_world_row table w) first.rest ≡ true)
      own-rest = split (is_world_row table w (row.Function g)) (list_all (is_world_row table w) first.rest) owns.1

      labels : (list_all is_labelled first.front ≡ true) × (list_all is_labelled (row.Function g ∷ first.rest) ≡ true)
      labels =
          split (list_all is_labelled first.front) (list_all is_labelled (row.Function g ∷ first.rest))
          (sym (list_all-append is_labelled first.front (row.Function g ∷ first.rest)) ∙ sym (ap (list_all is_labelled) parted) ∙ are.labels)

      label-rest : (is_label g.name ≡ true) × (list_all is_labelled first.rest ≡ true)
      label-rest = split (is_label g.name) (list_all is_labelled first.rest) labels.1

      function-rows : FunctionRows n first.front g (first.rest ++ es)
      function-rows = record {
        here = are.here ∙ whole;
        unnamed = first.unnamed;
        own = owns.0;
        own_function = own-rest.0;
        labels = labels.0;
        label = label-rest.0;
        earlier = subst (λ (xs : List Definition). are_earlier n xs ≡ true) whole are.earlier;
        used = subst (λ (xs : List Definition). are_used table n [] xs ≡ true) whole are.used;
        begins = are.begins;
      }

      after-f : n + length first.front + 1 ≡ f + 1
      after-f = ap (λ (m : ℕ). m + 1) (sym first.place)

      after-all : n + length (first.front ++ row.Function g ∷ []) ≡ f + 1
      after-all = omega (arith, first.place, length-append first.front (row.Function g ∷ []))

      between : rows_between table n f ≡ first.front
      between = ap (rows_between table n) first.place ∙ between-front table n first.front (row.Function g ∷ (first.rest ++ es)) (are.here ∙ whole)

      between-more : rows_between table n (f + 1) ≡ first.front ++ row.Function g ∷ []
      between-more =
          ap (rows_between table n) (sym after-all)
          ∙ between-front table n (first.front ++ row.Function g ∷ []) (first.rest ++ es) (are.here ∙ whole ∙ sym (append_assoc first.front (row.Function g ∷ []) (first.rest ++ es)))

      place-is : item_place table at n (item.Function (function_id f)) ≡ place_after (places_after at first.front) (row.Function g)
      place-is = ap (places_after at) between-more ∙ places-append at first.front (row.Function g ∷ [])

      abbrev states : InstanceRead
      states = settles n first.front g (first.rest ++ es) function-rows [] at s.inside here has

      rows-count : length states.rows ≡ f
      rows-count =
          (inside n first.front g (first.rest ++ es) function-rows [] at s.inside here has).kept.rows
          ∙ place-length n first.front g (first.rest ++ es) function-rows [] at s.inside here has ∙ sym first.place

      declared-is : item_declarations around-it at n way (item.Function (function_id f)) ≡ declarations_of at first.front ++ function_declared (places_after at first.front) way (Some g)
      declared-is =
          let told : function_of (slice_get table f) ≡ Some g = ap function_of at-f ∙ ap (λ (d : Definition). function_of (Some d)) function-is.1 in
          λ j. declarations_of at (between j) ++ function_declared (places_after at (between j)) way (told j)

      function-step : StepRead n at way f ds es s
      function-step = record {
        front = first.front;
        function = g;
        rest = first.rest;
        are = parted;
        place = first.place;
        state = record {
          inside = done n first.front g (first.rest ++ es) function-rows [] at s.inside here has;
          items = s.items ++ item_of way (item.Function (function_id (length states.rows))) ∷ [];
          interface = s.interface;
        };
        rows = (inside n first.front g (first.rest ++ es) function-rows [] at s.inside here has).rows ++ row.Function g ∷ [];
        alike = done-alike n first.front g (first.rest ++ es) function-rows [] at s.inside here has;
        told = done-rows n first.front g (first.rest ++ es) function-rows [] at s.inside here has;
        items = ap (λ (m : ℕ). s.items ++ item_of way (item.Function (function_id m)) ∷ []) rows-count;
        kept = subst (λ (p : Place). HasRead table start k p (done n first.front g (first.rest ++ es) function-rows [] at s.inside here has)) (sym place-is)
            (done-kept n first.front g (first.rest ++ es) function-rows [] at s.inside here has);
        read = λ more.
            ap (λ ds. items_read instances w (decls_of (ds ++ more)) s) declared-is ∙ function-read n first.front g (first.rest ++ es) function-rows at s here has way more;
        next = record {
          here = ap (λ m. drop m table) (sym after-all) ∙ drop-behind table n (first.front ++ row.Function g ∷ []) (first.rest ++ es) (are.here ∙ whole ∙ sym (append_assoc first.front (row.Function g ∷ []) (first.rest ++ es)));
          own = own-rest.1;
          labels = label-rest.1;
          earlier = subst (λ (m : ℕ). are_earlier m (first.rest ++ es) ≡ true) after-f (later-earlier n first.front g (first.rest ++ es) function-rows);
          used = subst (λ (m : ℕ). are_used table m [] (first.rest ++ es) ≡ true) after-f (later-used n first.front g (first.rest ++ es) function-rows);
          begins = let low = are.begins in omega (arith, low, first.place);
        };
        next_length = ap (λ (p : Place). length p.indices) place-is ∙ length-append (places_after at first.front).indices _
            ∙ ap (λ (m : ℕ). m + 1) (place-length n first.front g (first.rest ++ es) function-rows [] at s.inside here has) ∙ after-f;
      }

    pub record ItemsRead (n : ℕ) (at : Place) (is : List WorldItem) (ds es : List Definition) (s : WorldRead) : Type 0 where
      pub state : WorldRead
      pub rows : List Definition
      pub alike : AreAlike table n ds rows
      pub told : state.inside.rows ≡ s.inside.rows ++ rows
      pub items : state.items ≡ s.items ++ is
      pub kept : HasRead table start k (items_place table at n is) state.inside
      pub read : items_read instances w (decls_of (items_declared around-it at n is)) s ≡ Some state
      pub earlier : are_earlier (n + length ds) es ≡ true
      pub used : are_used table (n + length ds) [] es ≡ true
      pub later : drop (n + length ds) table ≡ es

    pub items-reread : (is : List WorldItem) (n : ℕ) (ds es : List Definition) (at : Place) (s : WorldRead) → WorldRows n ds es → places_where is_named n ds ≡ flat_map functions_in_item is
        → n + length ds ≡ behind_items n is → list_all (λ i. is_placed_item table count w i.kind) is ≡ true → length at.indices ≡ n → HasRead table start k at s.inside → ItemsRead n at is ds es s
    unfolding function-step first-named
    items-reread [] n [] es at s are places ends placed here has =
        let same : n ≡ n + 0 = omega arith in
        record {
          state = s;
          rows = [];
          alike = none n;
          told = sym (append-nil s.inside.rows);
          items = sym (append-nil s.items);
          kept = has;
          read = refl;
          earlier = subst (λ (m : ℕ). are_earlier m es ≡ true) same are.earlier;
          used = subst (λ (m : ℕ). are_used table m [] es ≡ true) same are.used;
          later = ap (λ m. drop m table) (sym same) ∙ are.here;
        }
    items-reread [] n (d ∷ ds) es at s are places ends placed here has = absurd (omega (arith, ends))
    items-reread (i ∷ is) n ds es at s are places ends placed here has =
        by i.kind places ends (split (is_placed_item table count w i.kind) _ placed).0
        (λ n ds at s are places ends here has. items-reread is n ds es at s are places ends others here has)
      where
        others : list_all (λ i. is_placed_item table count w i.kind) is ≡ true
        others = (split (is_placed_item table count w i.kind) _ placed).1

        by : (what : WorldItemKind) → places_where is_named n ds ≡ functions_in_item (record { direction = i.direction; kind = what }) ++ flat_map functions_in_item is
            → n + length ds ≡ behind_items (behind_item n what) is → is_placed_item table count w what ≡ true
            → ((n : ℕ) (ds : List Definition) (at : Place) (s : WorldRead) → WorldRows n ds es → places_where is_named n ds ≡ flat_map functions_in_item is → n + length ds ≡ behind_items n is
            → length at.indices ≡ n → HasRead table start k at s.inside → ItemsRead n at is ds es s)
            → ItemsRead n at (record { direction = i.direction; kind = what } ∷ is) ds es s
        by (item.Interface x) places ends low again =
            let after : Place = record { indices = at.indices; types = at.types + 1; used = at.used } in
            let s2 = with_interface_item i.direction (awaiting_interface s s.inside x) x in
            let more = again n ds after s2 are places ends here (interface-kept at s.inside has) in
            record {
              state = more.state;
              rows = more.rows;
              alike = more.alike;
              told = more.told;
              items = more.items ∙ append_assoc s.items (item_of i.direction (item.Interface x) ∷ []) is;
              kept = more.kept;
              read = interface-read at s i.direction x (ltb-true x.0 count low) has.awaited (items_declared around-it after n is) ∙ more.read;
              earlier = more.earlier;
              used = more.used;
              later = more.later;
            }
        by (item.Function f) places ends is_function again =
            let first = first-named n ds f.0 (flat_map functions_in_item is) places in
            let step = function-step n ds es at s are here has i.direction f.0 (flat_map functions_in_item is) first is_function in
            let after = item_place table at n (item.Function f) in
            let lengths : length ds ≡ length step.front + 1 + length step.rest = ap (λ (xs : List Definition). length xs) step.are ∙ length-append step.front (row.Function step.function ∷ step.rest) ∙ omega arith in
            let from : f.0 + 1 ≡ n + length (step.front ++ row.Function step.function ∷ []) = omega (arith, step.place, length-append step.front (row.Function step.function ∷ [])) in
            let whole : f.0 + 1 + length step.rest ≡ n + length ds = omega (arith, lengths, step.place) in
            let more = again (f.0 + 1) step.rest after step.state step.next first.others (whole ∙ ends) step.next_length step.kept in
            record {
              state = more.state;
              rows = step.rows ++ more.rows;
              alike = subst (λ (xs : List Definition). AreAlike table n xs (step.rows ++ more.rows)) (append_assoc step.front (row.Function step.function ∷ []) step.rest ∙ sym step.are)
                  (alike-append table n (step.front ++ row.Function step.function ∷ []) step.rows step.rest more.rows step.alike (subst (λ (m : ℕ). AreAlike table m step.rest more.rows) from more.alike));
              told = more.told ∙ ap (λ (xs : List Definition). xs ++ more.rows) step.told ∙ append_assoc s.inside.rows step.rows more.rows;
              items = more.items ∙ ap (λ (xs : List WorldItem). xs ++ is) step.items ∙ append_assoc s.items (item_of i.direction (item.Function f) ∷ []) is;
              kept = more.kept;
              read = step.read (items_declared around-it after (f.0 + 1) is) ∙ more.read;
              earlier = subst (λ (m : ℕ). are_earlier m es ≡ true) whole more.earlier;
              used = subst (λ (m : ℕ). are_used table m [] es ≡ true) whole more.used;
              later = ap (λ m. drop m table) (sym whole) ∙ more.later;
            }
