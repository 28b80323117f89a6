-- The component of a table in the form of packages is accepted.
use Rattle.std.proofs.Common.{◌≡◌, ℕ, suc, ◌+◌, ◌-◌, ◌<◌, ◌≤◌, ◌⊎◌, Bool, true, false, not, ◌&&◌, nat_lt, nat_le, List, [], ◌∷◌, ◌++◌, map, drop, sum, length, slice_get, slice_index, slice_index_or, Option, None, Some, refl, sym, ap, subst, ◌∙◌, append_assoc, arith, inl, inr}
use Rattle.std.specs.List.{list_all}
use Rattle.std.proofs.lemmas.Bool.Decides.{nat_tests}
use Rattle.std.proofs.lemmas.Bool.{leb-true, cases_lt}
use Rattle.std.proofs.lemmas.List.{length-append, length-map, length-take, length-drop, take-append-drop, drop-drop, map-append, get_or_append_left, get_or_push}
use Rattle.std.proofs.lemmas.List.Folds.{list_all-append, list_all-map}
use Rattle.std.proofs.lemmas.List.Sums.{sum_by-cons, sum_by-append}
use Rattle.std.proofs.lemmas.Slice.Eq.{bytes_eq-Decides}
use Rattle.ctype_format.specs.Raw.{Instance, Decl, Entry, Export}
use Rattle.ctype_format.specs.View.{decls_of}
use Rattle.ctype_format.specs.Formed.{All}
use Rattle.ctype_bin.specs.InRange.{DeclsInRange}
use Rattle.ctype_bin.specs.Accepted.{AllowedDecls, description_entries, entries_of_decls, IsAccepted}
use Rattle.ctype_format.specs.declared.raw.RawDescription.{RawDescription}
use Rattle.ctype_format.specs.declared.raw.RawDescription.TheVariants as described
use Rattle.tables.specs.Tables.{type_of, function_of, is_function_id, is_placed, are_placed, is_standard, are_earlier, is_there}
use Rattle.tables.specs.Names.{full_name}
use Rattle.tables.specs.Package.{interface_names}
use Rattle.tables.specs.declared.tables.TypeId.{TypeId}
use Rattle.tables.specs.declared.tables.FunctionId.{FunctionId}
use Rattle.tables.specs.declared.tables.TypeDef.{TypeDef}
use Rattle.tables.specs.declared.tables.TypeDefKind.{TypeDefKind}
use Rattle.tables.specs.declared.tables.TypeDefKind.TheVariants as kind
use Rattle.tables.specs.declared.tables.TypeName.{TypeName}
use Rattle.tables.specs.declared.tables.Definition.{Definition}
use Rattle.tables.specs.declared.tables.Definition.TheVariants as row
use Rattle.tables.specs.declared.tables.Interface.{Interface}
use Rattle.tables.specs.declared.tables.Function.{Function}
use Rattle.tables.specs.declared.tables.Direction.{Direction}
use Rattle.tables.specs.declared.tables.Direction.TheVariants as direction
use Rattle.tables.specs.declared.tables.WorldItemKind.{WorldItemKind}
use Rattle.tables.specs.declared.tables.WorldItemKind.TheVariants as item
use Rattle.tables.specs.declared.tables.WorldItem.{WorldItem}
use Rattle.tables.specs.declared.tables.World.{World}
use Rattle.tables.specs.declared.tables.Resolve.{Resolve}
use Rattle.package_form.specs.Ids.{places_where}
use Rattle.package_form.specs.Entries.{entries_of, entries_at, world_entries}
use Rattle.package_form.specs.References.{row_references}
use Rattle.wit_component.specs.Rows.{Place, outer_alias, declarations_of, places_after, place_after}
use Rattle.wit_component.specs.Worlds.{directed, rows_between, function_declared, Surroundings, items_declared, StandFrom}
use Rattle.package_form.specs.Ends.{behind_types, behind_functions, end_of, rows_of, interfaces_end, behind_items, world_end, is_parted}
use Rattle.wit_component.specs.Component.{instance_export, row_alias, aliases_of, ComponentFront, first_place, interface_direction, interface_declarations, front_after, interfaces_declared, no_front, interfaces_front, surroundings, world_front, worlds_declared, package_declarations, component_of}
use Rattle.package_form.specs.Closed.{own_package}
use Rattle.package_form.specs.Reached.{used_by, used_in, name_of, name_at}
use Rattle.package_form.specs.Form.{is_own, is_own_name, is_earlier_name, is_earlier_type, uses_earlier, is_owned, is_local, is_named, ids_of, is_use_type, is_use_at, has_ids, are_interfaces, IsInPackageForm}
use Rattle.package_form.specs.Unused.{inner_rows, can_use, is_next, unused_after, are_used}
use Rattle.tables.proofs.ClosedTypesRowByRow.{split, both}
use Rattle.package_form.proofs.PostfixIsDecided.{postfix-used}
use Rattle.package_form.proofs.NamesStandForOneRow.{none-named, worlds-parted}
use Rattle.wit_component.proofs.AcceptedComponents.DeclaredRows.{all-split, CanStand, row-allowed, row-entries}
use Rattle.wit_component.proofs.AcceptedComponents.StatesBeforeRows.{named_at, closed-stands}
use Rattle.wit_component.proofs.AcceptedComponents.RowsOfInterfaces.{behind, is_use_place, Walk, Walked, walked}
use Rattle.wit_component.proofs.AcceptedComponents.ItemsOfWorlds.{directed-range, BeforeRows, items-range}
use Rattle.wit_component.proofs.InterfaceRows.RowsBetweenPlaces.{rest-is, first-row}
use Rattle.wit_component.proofs.InterfaceRows.FactsOfRows.{all-take, all-drop}
use Rattle.wit_component.proofs.WorldItemsStandInOrder.{items-stand, AreWorlds, world-first, worlds-later}
use Rattle.wit_component.proofs.UsedNamesStandForOneRow.{named-row}

-- ---- all rows

stand : (rows ds : List Definition) (n : ℕ) (unused : List ℕ) → are_used rows n unused ds ≡ true → All CanStand ds
stand rows [] n unused h = tt
stand rows (d ∷ ds) n unused h =
    let s = split (is_next unused (inner_rows rows d) d) (are_used rows (n + 1) (unused_after n unused (inner_rows rows d) d) ds) h in
    let c = split _ _ (split (can_use d (inner_rows rows d)) _ s.0).1 in
    (closed-stands d (length unused - length (inner_rows rows d)) c.1, stand rows ds (n + 1) (unused_after n unused (inner_rows rows d) d) s.1)

-- ---- aliases of used types, in interface k

module _ (rows : List Definition) (k : ℕ) where
  -- what is declared of a component type that has so many types and k instances
  abbrev Ranged : ℕ → List Decl → Type 0
  Ranged types ds = DeclsInRange (0 ∷ []) types k (decls_of ds)

  no-alias : (types : ℕ) (rest : List Decl) → Ranged (types + 0) rest → Ranged types rest
  no-alias types rest h = let e : types + 0 ≡ types = omega arith in subst (λ (c : ℕ). Ranged c rest) e h

  name-range : (o : Option TypeName) (types : ℕ) (rest : List Decl) → is_earlier_name k o ≡ true → Ranged (types + length (instance_export o)) rest → Ranged types (instance_export o ++ rest)
  unfolding DeclsInRange
  name-range None types rest is h = absurd (cc)
  name-range (Some n) types rest is h = (let b : nat_lt n.interface.0 k ≡ true = is in grind (arith, nat_tests), h)

  earlier-range : (o : Option TypeDef) (types : ℕ) (rest : List Decl) → is_earlier_type k o ≡ true → Ranged (types + length (instance_export (name_of o))) rest → Ranged types (instance_export (name_of o) ++ rest)
  earlier-range None types rest is h = absurd (cc)
  earlier-range (Some d) types rest is h = name-range d.name types rest is h

  kind-range : (x : TypeDefKind) (types : ℕ) (rest : List Decl) → uses_earlier rows k x ≡ true → Ranged (types + length (instance_export (name_at rows (used_by x)))) rest → Ranged types (instance_export (name_at rows (used_by x)) ++ rest)
  kind-range (kind.Use t) types rest is h = earlier-range (type_of (slice_get rows t.0)) types rest is h
  kind-range (kind.Alias v) types rest is h = no-alias types rest h
  kind-range (kind.List v) types rest is h = no-alias types rest h
  kind-range (kind.Option v) types rest is h = no-alias types rest h
  kind-range (kind.Result v w) types rest is h = no-alias types rest h
  kind-range (kind.Tuple vs) types rest is h = no-alias types rest h
  kind-range (kind.Record fs) types rest is h = no-alias types rest h
  kind-range (kind.Variant cs) types rest is h = no-alias types rest h
  kind-range (kind.Enum ns) types rest is h = no-alias types rest h
  kind-range (kind.Flags ns) types rest is h = no-alias types rest h

  alias-range : (d : Definition) (types : ℕ) (rest : List Decl) → is_local rows k d ≡ true → Ranged (types + length (row_alias rows d)) rest → Ranged types (row_alias rows d ++ rest)
  alias-range (row.Type d) types rest is h =
      let owned = (split (is_owned rows k (row.Type d)) (list_all (is_own rows k) (row_references (row.Type d))) is).0 in
      kind-range d.kind types rest (split (is_own_name k d.name) (uses_earlier rows k d.kind) owned).1 h
  alias-range (row.Function f) types rest is h = no-alias types rest h

  aliases-range : (ds : List Definition) (types : ℕ) (rest : List Decl) → list_all (is_local rows k) ds ≡ true → Ranged (types + length (aliases_of rows ds)) rest → Ranged types (aliases_of rows ds ++ rest)
  aliases-range [] types rest is h = no-alias types rest h
  aliases-range (d ∷ ds) types rest is h =
      let s = split (is_local rows k d) (list_all (is_local rows k) ds) is in
      let all : types + length (aliases_of rows (d ∷ ds)) ≡ types + length (row_alias rows d) + length (aliases_of rows ds) = omega (arith, length-append (row_alias rows d) (aliases_of rows ds)) in
      subst (λ (xs : List Decl). Ranged types xs) (sym (append_assoc (row_alias rows d) (aliases_of rows ds) rest))
      (alias-range d types (aliases_of rows ds ++ rest) s.0 (aliases-range ds (types + length (row_alias rows d)) rest s.1 (subst (λ (c : ℕ). Ranged c rest) all h)))

-- ---- ids

behind-append : (start : ℕ) (ps qs : List ℕ) → behind start (ps ++ qs) ≡ behind (behind start ps) qs
behind-append start [] qs = refl
behind-append start (p ∷ ps) qs = behind-append (p + 1) ps qs

types-behind : (start : ℕ) (ts : List TypeId) → behind start (map (λ t. t.0) ts) ≡ behind_types start ts
types-behind start [] = refl
types-behind start (t ∷ ts) = types-behind (t.0 + 1) ts

functions-behind : (start : ℕ) (fs : List FunctionId) → behind start (map (λ f. f.0) fs) ≡ behind_functions start fs
functions-behind start [] = refl
functions-behind start (f ∷ fs) = functions-behind (f.0 + 1) fs

abbrev use_places : Interface → List ℕ
use_places i = map (λ t. t.0) i.uses

abbrev other_places : Interface → List ℕ
other_places i = map (λ t. t.0) i.types ++ map (λ f. f.0) i.functions

ids-behind : (start : ℕ) (i : Interface) → behind start (use_places i ++ other_places i) ≡ end_of start i
ids-behind start i =
    behind-append start (use_places i) (other_places i)
    ∙ ap (λ m. behind m (other_places i)) (types-behind start i.uses)
    ∙ behind-append (behind_types start i.uses) (map (λ t. t.0) i.types) (map (λ f. f.0) i.functions)
    ∙ ap (λ m. behind m (map (λ f. f.0) i.functions)) (types-behind (behind_types start i.uses) i.types)
    ∙ functions-behind (behind_types (behind_types start i.uses) i.types) i.functions

function-other : (o : Option Definition) → is_there (function_of o) ≡ true → not (is_use_type (type_of o)) ≡ true
function-other None h = absurd (cc)
function-other (Some (row.Type d)) h = absurd (let e : false ≡ true = h in cc)
function-other (Some (row.Function f)) h = refl

functions-other : (rows : List Definition) (fs : List FunctionId) → list_all (is_function_id rows) fs ≡ true → list_all (λ p. not (is_use_type (type_of (slice_get rows p)))) (map (λ f. f.0) fs) ≡ true
functions-other rows [] h = refl
functions-other rows (f ∷ fs) h =
    let s = split (is_function_id rows f) (list_all (is_function_id rows) fs) h in
    both _ _ (function-other (slice_get rows f.0) s.0) (functions-other rows fs s.1)

-- ---- interfaces

-- before interface k, whose rows begin at place n: each row has an index, and each name is of an earlier interface
record Before (rows : List Definition) (k n : ℕ) (indices : List ℕ) : Type 0 where
  long : length indices ≡ n
  before : (t : ℕ) (m : TypeName) → t < n → named_at rows t ≡ Some m → m.interface.0 < k

module _ (rows : List Definition) (start : ℕ) (i : Interface) (before : start ≤ end_of start i) (within : end_of start i ≤ length rows) where
  abbrev own_rows : List Definition
  own_rows = rows_of rows start i

  abbrev later_rows : List Definition
  later_rows = drop (end_of start i - start) (drop start rows)

  cut : drop start rows ≡ own_rows ++ later_rows
  cut = sym (take-append-drop (end_of start i - start) (drop start rows))

  own-length : start + length own_rows ≡ end_of start i
  own-length = omega (arith, before, within, length-take (end_of start i - start) (drop start rows), length-drop start rows)

  later-rows : later_rows ≡ drop (end_of start i) rows
  later-rows = let e : start + (end_of start i - start) ≡ end_of start i = omega (arith, before) in drop-drop (end_of start i - start) start rows ∙ ap (λ n. drop n rows) e

  module _ (k : ℕ) (at : ComponentFront) (rest : List Decl) (way : Direction) (name : List ℕ) (front : Before rows k start at.indices) (placed : is_placed rows i ≡ true)
      (earlier : are_earlier start (drop start rows) ≡ true) (used : are_used rows start [] (drop start rows) ≡ true) (ids : has_ids rows start i ≡ true) (local : list_all (is_local rows k) (rows_of rows start i) ≡ true) where
    abbrev count : ℕ
    count = at.types + length (aliases_of rows own_rows)

    places : use_places i ++ other_places i ≡ places_where is_named start own_rows
    places = (bytes_eq-Decides (ids_of i) (places_where is_named start own_rows)).0 (split _ _ ids).0

    kinds : (list_all (is_use_at rows) i.uses ≡ true) × (list_all (λ t. not (is_use_at rows t)) i.types ≡ true)
    kinds = split _ _ (split _ _ ids).1

    functions : list_all (is_function_id rows) i.functions ≡ true
    functions = (split _ _ (split _ _ placed).1).1

    abbrev is_other : ℕ → Bool
    is_other p = not (is_use_type (type_of (slice_get rows p)))

    others : list_all is_other (other_places i) ≡ true
    others =
        list_all-append is_other (map (λ t. t.0) i.types) (map (λ f. f.0) i.functions)
        ∙ both _ _ (list_all-map is_other (λ (t : TypeId). t.0) i.types ∙ kinds.1) (functions-other rows i.functions functions)

    walk : Walk rows k count start (first_place at) [] (use_places i) (other_places i) start own_rows later_rows
    walk = record {
      here = cut;
      local = local;
      earlier = subst (λ (ds : List Definition). are_earlier start ds ≡ true) cut earlier;
      used = subst (λ (ds : List Definition). are_used rows start [] ds ≡ true) cut used;
      ids = places;
      are_uses = list_all-map (is_use_place rows k count) (λ (t : TypeId). t.0) i.uses ∙ kinds.0;
      are_others = others;
      phase = inr (inl (refl, refl));
      last_before = omega arith;
      last_whole = λ e. refl;
      end = ids-behind start i ∙ sym own-length;
      state = record {
        long = front.long;
        known = λ t m lt named own. let h = front.before t m lt named in absurd (omega (arith, h, own));
        inner = tt;
        before = λ t m lt named. let h = front.before t m lt named in omega (arith, h);
      };
    }

    ended : DeclsInRange (0 ∷ count ∷ []) 0 0 (decls_of (declarations_of (first_place at) own_rows)) × Walked rows k count (start + length own_rows) (places_after (first_place at) own_rows) later_rows
    ended = walked rows k count own_rows later_rows start (first_place at) [] (use_places i) (other_places i) start walk

    interface-range : DeclsInRange (0 ∷ []) (count + 1) (k + 1) (decls_of rest) → DeclsInRange (0 ∷ []) at.types k (decls_of (interface_declarations rows at own_rows way name ++ rest))
    unfolding DeclsInRange
    interface-range h =
        subst (λ (ds : List Decl). DeclsInRange (0 ∷ []) at.types k (decls_of ds))
        (sym (append_assoc (aliases_of rows own_rows) (Entry (Instance (decls_of (declarations_of (first_place at) own_rows))) ∷ directed way name (described.Instance count) ∷ []) rest))
        (aliases-range rows k own_rows at.types (Entry (Instance (decls_of (declarations_of (first_place at) own_rows))) ∷ directed way name (described.Instance count) ∷ rest) local
        (ended.0, directed-range (0 ∷ []) (count + 1) k way name (described.Instance count) rest (omega arith) h))

    behind-rows : Walked rows k count (end_of start i) (places_after (first_place at) own_rows) (drop (end_of start i) rows)
    behind-rows =
        subst (λ (n : ℕ). Walked rows k count n (places_after (first_place at) own_rows) (drop (end_of start i) rows)) own-length
        (subst (λ (ds : List Definition). Walked rows k count (start + length own_rows) (places_after (first_place at) own_rows) ds) later-rows ended.1)

    front-next : Before rows (k + 1) (end_of start i) (front_after rows at own_rows).indices
    front-next = record { long = behind-rows.state.long; before = λ t m lt named. let h = behind-rows.state.before t m lt named in omega (arith, h) }

module _ (r : Resolve) where
  abbrev rows : List Definition
  rows = r.definitions

  abbrev way : Interface → Direction
  way i = interface_direction (own_package r.packages) i

  parts : (start : ℕ) (i : Interface) (is : List Interface) → is_parted (length rows) start (i ∷ is) r.worlds ≡ true → (start ≤ end_of start i) × (end_of start i ≤ length rows) × (is_parted (length rows) (end_of start i) is r.worlds ≡ true)
  parts start i is h =
      let a = split (nat_le start (end_of start i)) _ h in
      let b = split (nat_le (end_of start i) (length rows)) (is_parted (length rows) (end_of start i) is r.worlds) a.1 in
      (leb-true start (end_of start i) a.0, leb-true (end_of start i) (length rows) b.0, b.1)

  -- what follows stands here, behind k interfaces
  abbrev InstancesKnown : ℕ → ComponentFront → Type 0
  InstancesKnown k at = (length at.instances ≡ k) × ((i : ℕ) → i < k → slice_index at.instances i < at.types)

  record Ended (k start : ℕ) (at : ComponentFront) : Type 0 where
    indices : Before rows k start at.indices
    instances : InstancesKnown k at
    earlier : are_earlier start (drop start rows) ≡ true
    used : are_used rows start [] (drop start rows) ≡ true

  instances-next : (k : ℕ) (at : ComponentFront) (ds : List Definition) → InstancesKnown k at → InstancesKnown (k + 1) (front_after rows at ds)
  instances-next k at ds h = (omega (arith, h.0, length-append at.instances (index ∷ [])), λ i low. by (cases_lt i k) low)
    where
      index : ℕ
      index = at.types + length (aliases_of rows ds)

      old : (i : ℕ) → i < k → slice_index (at.instances ++ index ∷ []) i < index + 1
      old i low = let same = get_or_append_left at.instances (index ∷ []) 0 i (omega (arith, low, h.0)) in let known = h.1 i low in omega (arith, same, known)

      new : (i : ℕ) → i ≡ k → slice_index (at.instances ++ index ∷ []) i < index + 1
      new i e = let same = get_or_push at.instances index 0 i (h.0 ∙ sym e) in omega (arith, same)

      by : {i : ℕ} → (i < k) ⊎ (k ≤ i) → i < k + 1 → slice_index (at.instances ++ index ∷ []) i < index + 1
      by {i} (inl l) low = old i l
      by {i} (inr l) low = new i (omega (arith, l, low))

  interfaces-range : (more : List Decl) (is : List Interface) (k start : ℕ) (at : ComponentFront) → Ended k start at → is_parted (length rows) start is r.worlds ≡ true → are_interfaces rows k start is ≡ true
      → are_placed rows is ≡ true → (Ended (k + length is) (interfaces_end start is) (interfaces_front rows at start is) → DeclsInRange (0 ∷ []) (interfaces_front rows at start is).types (k + length is) (decls_of more))
      → DeclsInRange (0 ∷ []) at.types k (decls_of (interfaces_declared r at start is ++ more))
  unfolding DeclsInRange
  interfaces-range more [] k start at front parted interfaces placed then =
      let same : k + 0 ≡ k = omega arith in
      subst (λ (n : ℕ). DeclsInRange (0 ∷ []) at.types n (decls_of more)) same (then (subst (λ (n : ℕ). Ended n start at) (sym same) front))
  interfaces-range more (i ∷ is) k start at front parted interfaces placed then =
      let p = parts start i is parted in
      let s = split (has_ids rows start i && list_all (is_local rows k) (rows_of rows start i)) (are_interfaces rows (k + 1) (end_of start i) is) interfaces in
      let own = split (has_ids rows start i) (list_all (is_local rows k) (rows_of rows start i)) s.0 in
      let q = split (is_placed rows i) (are_placed rows is) placed in
      let ds = rows_of rows start i in
      let rest = interfaces_declared r (front_after rows at ds) (end_of start i) is ++ more in
      let next = behind-rows rows start i p.0 p.1 k at rest (way i) (full_name r i) front.indices q.0 front.earlier front.used own.0 own.1 in
      let after : Ended (k + 1) (end_of start i) (front_after rows at ds) = record {
        indices = front-next rows start i p.0 p.1 k at rest (way i) (full_name r i) front.indices q.0 front.earlier front.used own.0 own.1;
        instances = instances-next k at ds front.instances;
        earlier = next.earlier;
        used = next.used;
      } in
      let count : k + 1 + length is ≡ k + length (i ∷ is) = omega arith in
      subst (λ (xs : List Decl). DeclsInRange (0 ∷ []) at.types k (decls_of xs)) (sym (append_assoc (interface_declarations rows at ds (way i) (full_name r i)) (interfaces_declared r (front_after rows at ds) (end_of start i) is) more))
      (interface-range rows start i p.0 p.1 k at rest (way i) (full_name r i) front.indices q.0 front.earlier front.used own.0 own.1
      (interfaces-range more is (k + 1) (end_of start i) (front_after rows at ds) after p.2 s.1 q.1
      (λ e. subst (λ (n : ℕ). DeclsInRange (0 ∷ []) (interfaces_front rows (front_after rows at ds) (end_of start i) is).types n (decls_of more)) (sym count)
      (then (subst (λ (n : ℕ). Ended n (interfaces_end (end_of start i) is) (interfaces_front rows (front_after rows at ds) (end_of start i) is)) count e)))))

  -- worlds behind so many interfaces, whose names alone there are
  module _ (lows : (t : ℕ) (m : TypeName) → named_at rows t ≡ Some m → m.interface.0 < length r.interfaces) where
    begun : (w start : ℕ) (at : ComponentFront) → Ended (length r.interfaces) start at → BeforeRows rows (length r.interfaces) at.types w start (first_place at) [] (drop start rows)
    begun w start at front = record {
      here = refl;
      earlier = front.earlier;
      used = front.used;
      state = record {
        long = front.indices.long;
        known = λ t m lt named own. let low = lows t m named in absurd (omega (arith, low, own));
        inner = tt;
        before = λ t m lt named. let low = lows t m named in omega (arith, low);
      };
    }

    worlds-range : (ws : List World) (w start : ℕ) (at : ComponentFront) → Ended (length r.interfaces) start at → AreWorlds rows (length r.interfaces) w start ws
        → DeclsInRange (0 ∷ []) at.types (length r.interfaces) (decls_of (worlds_declared r at start ws))
    unfolding DeclsInRange
    worlds-range [] w start at front are = tt
    worlds-range (x ∷ ws) w start at front are =
        let first = world-first rows (length r.interfaces) w start x ws are in
        let items = items-range rows (length r.interfaces) at.types w (interface_names r) at.instances front.instances.1 x.items start (first_place at) (world_end start x) (begun w start at front)
        (items-stand rows (length r.interfaces) w start x first.low first.high first.items first.placed) first.placed first.own (omega arith) in
        let next : Ended (length r.interfaces) (world_end start x) (world_front rows at start x) = record {
          indices = record { long = items.before.state.long; before = λ t m lt named. lows t m named };
          instances = (front.instances.0, λ i low. let known = front.instances.1 i low in omega (arith, known));
          earlier = items.before.earlier;
          used = items.before.used;
        } in
        (items.range 0, (omega arith, worlds-range ws (w + 1) (world_end start x) (world_front rows at start x) next (worlds-later rows (length r.interfaces) w start x ws are)))

  -- ---- counts, nesting and type entries

  abbrev entries : List Decl → ℕ
  entries ds = entries_of_decls (decls_of ds)

  export-entries : (o : Option TypeName) (rest : List Decl) → entries (instance_export o ++ rest) ≡ length (instance_export o) + entries rest
  unfolding entries_of_decls
  export-entries None rest = omega arith
  export-entries (Some n) rest = omega arith

  aliases-entries : (ds : List Definition) (rest : List Decl) → entries (aliases_of rows ds ++ rest) ≡ length (aliases_of rows ds) + entries rest
  aliases-entries [] rest = omega arith
  aliases-entries (d ∷ ds) rest =
      let here : entries (row_alias rows d ++ (aliases_of rows ds ++ rest)) ≡ length (row_alias rows d) + entries (aliases_of rows ds ++ rest) = export-entries (name_at rows (used_in d)) (aliases_of rows ds ++ rest) in
      let more = aliases-entries ds rest in
      ap entries (append_assoc (row_alias rows d) (aliases_of rows ds) rest) ∙ omega (arith, here, more, length-append (row_alias rows d) (aliases_of rows ds))

  sum-append : (ds es : List Definition) → sum (map entries_of (ds ++ es)) ≡ sum (map entries_of ds) + sum (map entries_of es)
  sum-append ds es = ap sum (map-append entries_of ds es) ∙ sum_by-append (λ n. n) (map entries_of ds) (map entries_of es)

  rows-entries : (ds : List Definition) (at : Place) → All CanStand ds → entries (declarations_of at ds) + length (aliases_of rows ds) ≤ sum (map entries_of ds)
  unfolding entries_of_decls
  rows-entries [] at h = omega arith
  rows-entries (d ∷ ds) at h =
      let here = row-entries rows at (declarations_of (place_after at d) ds) d h.0 in
      let more = rows-entries ds (place_after at d) h.1 in
      let all : sum (map entries_of (d ∷ ds)) ≡ entries_of d + sum (map entries_of ds) = sum_by-cons (λ n. n) (entries_of d) (map entries_of ds) in
      omega (arith, here, more, all, length-append (row_alias rows d) (aliases_of rows ds))

  entries-append : (xs ys : List Decl) → entries (xs ++ ys) ≡ entries xs + entries ys
  unfolding entries_of_decls
  entries-append [] ys = omega arith
  entries-append (x ∷ xs) ys = let more = entries-append xs ys in omega (arith, more)

  directed-entries : (way : Direction) (name : List ℕ) (d : RawDescription) → description_entries d ≡ 0 → entries (directed way name d ∷ []) ≡ 0
  unfolding entries_of_decls
  directed-entries direction.Import name d none = omega (arith, none)
  directed-entries direction.Export name d none = omega (arith, none)

  interface-entries : (at : ComponentFront) (ds : List Definition) (way : Direction) (name : List ℕ) (rest : List Decl) → All CanStand ds → entries (interface_declarations rows at ds way name ++ rest) ≤ 1 + sum (map entries_of ds) + entries rest
  unfolding entries_of_decls
  interface-entries at ds way name rest h =
      let named = directed way name (described.Instance (at.types + length (aliases_of rows ds))) in
      let all : entries (interface_declarations rows at ds way name ++ rest) ≡ length (aliases_of rows ds) + (1 + entries (declarations_of (first_place at) ds) + entries (named ∷ rest)) =
      ap entries (append_assoc (aliases_of rows ds) (Entry (Instance (decls_of (declarations_of (first_place at) ds))) ∷ named ∷ []) rest)
      ∙ aliases-entries ds (Entry (Instance (decls_of (declarations_of (first_place at) ds))) ∷ named ∷ rest) in
      let own = rows-entries ds (first_place at) h in
      let none = entries-append (named ∷ []) rest in
      let zero = directed-entries way name (described.Instance (at.types + length (aliases_of rows ds))) refl in
      omega (arith, all, own, none, zero)

  interfaces-entries : (more : List Decl) (is : List Interface) (start : ℕ) (at : ComponentFront) → is_parted (length rows) start is r.worlds ≡ true → All CanStand (drop start rows)
      → (entries (interfaces_declared r at start is ++ more) + sum (map entries_of (drop (interfaces_end start is) rows)) ≤ length is + sum (map entries_of (drop start rows)) + entries more)
      × All CanStand (drop (interfaces_end start is) rows)
  unfolding entries_of_decls
  interfaces-entries more [] start at parted h = (omega arith, h)
  interfaces-entries more (i ∷ is) start at parted h =
      let p = parts start i is parted in
      let is-cut : drop start rows ≡ rows_of rows start i ++ drop (end_of start i) rows = cut rows start i p.0 p.1 ∙ ap (λ (ds : List Definition). rows_of rows start i ++ ds) (later-rows rows start i p.0 p.1) in
      let s = all-split CanStand (rows_of rows start i) (drop (end_of start i) rows) (subst (λ (ds : List Definition). All CanStand ds) is-cut h) in
      let sums : sum (map entries_of (drop start rows)) ≡ sum (map entries_of (rows_of rows start i)) + sum (map entries_of (drop (end_of start i) rows)) =
      ap (λ (ds : List Definition). sum (map entries_of ds)) is-cut ∙ sum-append (rows_of rows start i) (drop (end_of start i) rows) in
      let rest = interfaces_declared r (front_after rows at (rows_of rows start i)) (end_of start i) is in
      let here = interface-entries at (rows_of rows start i) (way i) (full_name r i) (rest ++ more) s.0 in
      let again = interfaces-entries more is (end_of start i) (front_after rows at (rows_of rows start i)) p.2 s.1 in
      let same : entries (interfaces_declared r at start (i ∷ is) ++ more) ≡ entries (interface_declarations rows at (rows_of rows start i) (way i) (full_name r i) ++ (rest ++ more)) =
      ap entries (append_assoc (interface_declarations rows at (rows_of rows start i) (way i) (full_name r i)) rest more) in
      (omega (arith, sums, here, again.0, same), again.1)

  -- ---- those of worlds

  alias-entries : (n : ℕ) (rest : List Decl) → entries (outer_alias n ∷ rest) ≡ 1 + entries rest
  unfolding entries_of_decls
  alias-entries n rest = refl

  function-entries : (at : Place) (way : Direction) (d : Definition) → entries (function_declared at way (function_of (Some d))) ≤ entries_of d
  unfolding entries_of_decls
  function-entries at way (row.Type d) = omega arith
  function-entries at way (row.Function f) = let none = directed-entries way f.name (described.Function at.types) refl in omega (arith, none)

  module _ (names : List (List ℕ)) (instances : List ℕ) where
    abbrev around : Surroundings
    around = record { rows = rows; names = names; instances = instances }

    abbrev ItemsCounted : ℕ → Place → List WorldItem → Type 0
    ItemsCounted n at is =
        (entries (items_declared around at n is) + sum (map entries_of (drop (behind_items n is) rows)) ≤ sum (map entries_at is) + sum (map entries_of (drop n rows)))
        × All CanStand (drop (behind_items n is) rows)

    items-entries : (is : List WorldItem) (n : ℕ) (at : Place) → StandFrom (length r.interfaces) rows n is → All CanStand (drop n rows) → ItemsCounted n at is
    unfolding entries_of_decls
    items-entries [] n at together h = (omega arith, h)
    items-entries (i ∷ is) n at together h = by i.kind together (λ n at together h. items-entries is n at together h)
      where
        by : (what : WorldItemKind) → StandFrom (length r.interfaces) rows n (record { direction = i.direction; kind = what } ∷ is)
            → ((n : ℕ) (at : Place) → StandFrom (length r.interfaces) rows n is → All CanStand (drop n rows) → ItemsCounted n at is) → ItemsCounted n at (record { direction = i.direction; kind = what } ∷ is)
        by (item.Interface x) together again =
            let after : Place = record { indices = at.indices; types = at.types + 1; used = at.used } in
            let more = again n after together.1 h in
            let named = directed (i.direction) (slice_index_or names x.0 []) (described.Instance at.types) in
            let here : entries (outer_alias (slice_index instances x.0) ∷ named ∷ items_declared around after n is) ≡ 1 + entries (named ∷ items_declared around after n is) =
            alias-entries (slice_index instances x.0) (named ∷ items_declared around after n is) in
            let none = directed-entries i.direction (slice_index_or names x.0 []) (described.Instance at.types) refl in
            let rest : entries (named ∷ items_declared around after n is) ≡ entries (named ∷ []) + entries (items_declared around after n is) = entries-append (named ∷ []) (items_declared around after n is) in
            let all : sum (map entries_at (record { direction = i.direction; kind = item.Interface x } ∷ is)) ≡ 1 + sum (map entries_at is) = sum_by-cons (λ n. n) 1 (map entries_at is) in
            (omega (arith, more.0, here, none, rest, all), more.1)
        by (item.Function f) together again =
            let inner = rows_between rows n f.0 in
            let at_f = places_after at inner in
            let d = first-row rows f.0 together.0.1 in
            let own = function_declared at_f i.direction (function_of (slice_get rows f.0)) in
            let rest = items_declared around (places_after at (rows_between rows n (f.0 + 1))) (f.0 + 1) is in
            let cut : drop n rows ≡ inner ++ d.0 ∷ drop (f.0 + 1) rows = rest-is rows n f.0 together.0.0 ∙ ap (λ ds. inner ++ ds) d.1 in
            let s = all-split CanStand inner (d.0 ∷ drop (f.0 + 1) rows) (subst (λ (ds : List Definition). All CanStand ds) cut h) in
            let more = again (f.0 + 1) (places_after at (rows_between rows n (f.0 + 1))) together.1 s.1.1 in
            let before = rows-entries inner at s.0 in
            let mine : entries own ≤ entries_of d.0 = subst (λ (o : Option Definition). entries (function_declared at_f i.direction (function_of o)) ≤ entries_of d.0) (sym d.2) (function-entries at_f i.direction d.0) in
            let whole : entries ((declarations_of at inner ++ own) ++ rest) ≡ entries (declarations_of at inner) + entries own + entries rest =
            entries-append (declarations_of at inner ++ own) rest ∙ ap (λ m. m + entries rest) (entries-append (declarations_of at inner) own) in
            let sums : sum (map entries_of (drop n rows)) ≡ sum (map entries_of inner) + (entries_of d.0 + sum (map entries_of (drop (f.0 + 1) rows))) =
            ap (λ (ds : List Definition). sum (map entries_of ds)) cut ∙ sum-append inner (d.0 ∷ drop (f.0 + 1) rows)
            ∙ ap (λ m. sum (map entries_of inner) + m) (sum_by-cons (λ n. n) (entries_of d.0) (map entries_of (drop (f.0 + 1) rows))) in
            let all : sum (map entries_at (record { direction = i.direction; kind = item.Function f } ∷ is)) ≡ 0 + sum (map entries_at is) = sum_by-cons (λ n. n) 0 (map entries_at is) in
            (omega (arith, more.0, before, mine, whole, sums, all), more.1)

  worlds-entries : (ws : List World) (w start : ℕ) (at : ComponentFront) → AreWorlds rows (length r.interfaces) w start ws → All CanStand (drop start rows)
      → entries (worlds_declared r at start ws) ≤ sum (map world_entries ws) + sum (map entries_of (drop start rows))
  unfolding entries_of_decls
  worlds-entries [] w start at are h = omega arith
  worlds-entries (x ∷ ws) w start at are h =
      let first = world-first rows (length r.interfaces) w start x ws are in
      let items = items-entries (interface_names r) at.instances x.items start (first_place at) (items-stand rows (length r.interfaces) w start x first.low first.high first.items first.placed) h in
      let more = worlds-entries ws (w + 1) (world_end start x) (world_front rows at start x) (worlds-later rows (length r.interfaces) w start x ws are) items.1 in
      let all : sum (map world_entries (x ∷ ws)) ≡ world_entries x + sum (map world_entries ws) = sum_by-cons (λ n. n) (world_entries x) (map world_entries ws) in
      omega (arith, items.0, more, all)

  rows-allowed : (depth : ℕ) (component : Bool) (ds : List Definition) (at : Place) → list_all is_standard ds ≡ true → AllowedDecls depth component (decls_of (declarations_of at ds))
  unfolding AllowedDecls
  rows-allowed depth component [] at h = tt
  rows-allowed depth component (d ∷ ds) at h = let s = split (is_standard d) (list_all is_standard ds) h in row-allowed at depth component d (declarations_of (place_after at d) ds) s.0 (rows-allowed depth component ds (place_after at d) s.1)

  export-allowed : (o : Option TypeName) (depth : ℕ) (rest : List Decl) → AllowedDecls depth true (decls_of rest) → AllowedDecls depth true (decls_of (instance_export o ++ rest))
  unfolding AllowedDecls
  export-allowed None depth rest h = h
  export-allowed (Some n) depth rest h = (tt, h)

  aliases-allowed : (ds : List Definition) (depth : ℕ) (rest : List Decl) → AllowedDecls depth true (decls_of rest) → AllowedDecls depth true (decls_of (aliases_of rows ds ++ rest))
  aliases-allowed [] depth rest h = h
  aliases-allowed (d ∷ ds) depth rest h =
      subst (λ (xs : List Decl). AllowedDecls depth true (decls_of xs)) (sym (append_assoc (row_alias rows d) (aliases_of rows ds) rest))
      (export-allowed (name_at rows (used_in d)) depth (aliases_of rows ds ++ rest) (aliases-allowed ds depth rest h))

  directed-allowed : (depth : ℕ) (way : Direction) (name : List ℕ) (d : RawDescription) (rest : List Decl) → AllowedDecls depth true (decls_of rest) → AllowedDecls depth true (decls_of (directed way name d ∷ rest))
  unfolding AllowedDecls
  directed-allowed depth direction.Import name d rest h = (refl, h)
  directed-allowed depth direction.Export name d rest h = (tt, h)

  interface-allowed : (at : ComponentFront) (ds : List Definition) (way : Direction) (name : List ℕ) (depth : ℕ) (rest : List Decl) → list_all is_standard ds ≡ true → AllowedDecls (suc depth) true (decls_of rest)
      → AllowedDecls (suc depth) true (decls_of (interface_declarations rows at ds way name ++ rest))
  unfolding AllowedDecls
  interface-allowed at ds way name depth rest standard h =
      let named = directed way name (described.Instance (at.types + length (aliases_of rows ds))) in
      subst (λ (xs : List Decl). AllowedDecls (suc depth) true (decls_of xs))
      (sym (append_assoc (aliases_of rows ds) (Entry (Instance (decls_of (declarations_of (first_place at) ds))) ∷ named ∷ []) rest))
      (aliases-allowed ds (suc depth) (Entry (Instance (decls_of (declarations_of (first_place at) ds))) ∷ named ∷ rest)
      (rows-allowed depth false ds (first_place at) standard, directed-allowed (suc depth) way name (described.Instance (at.types + length (aliases_of rows ds))) rest h))

  interfaces-allowed : (more : List Decl) (is : List Interface) (start : ℕ) (at : ComponentFront) (depth : ℕ) → is_parted (length rows) start is r.worlds ≡ true → list_all is_standard (drop start rows) ≡ true
      → AllowedDecls (suc depth) true (decls_of more) → AllowedDecls (suc depth) true (decls_of (interfaces_declared r at start is ++ more))
  unfolding AllowedDecls
  interfaces-allowed more [] start at depth parted h then = then
  interfaces-allowed more (i ∷ is) start at depth parted h then =
      let p = parts start i is parted in
      let ds = rows_of rows start i in
      let is-cut : drop start rows ≡ ds ++ drop (end_of start i) rows = cut rows start i p.0 p.1 ∙ ap (λ (es : List Definition). ds ++ es) (later-rows rows start i p.0 p.1) in
      let s = split (list_all is_standard ds) (list_all is_standard (drop (end_of start i) rows)) (sym (ap (list_all is_standard) is-cut ∙ list_all-append is_standard ds (drop (end_of start i) rows)) ∙ h) in
      let rest = interfaces_declared r (front_after rows at ds) (end_of start i) is in
      subst (λ (xs : List Decl). AllowedDecls (suc depth) true (decls_of xs)) (sym (append_assoc (interface_declarations rows at ds (way i) (full_name r i)) rest more))
      (interface-allowed at ds (way i) (full_name r i) depth (rest ++ more) s.0 (interfaces-allowed more is (end_of start i) (front_after rows at ds) depth p.2 s.1 then))

  -- ---- those of worlds

  append-allowed : (depth : ℕ) (xs ys : List Decl) → AllowedDecls depth true (decls_of xs) → AllowedDecls depth true (decls_of ys) → AllowedDecls depth true (decls_of (xs ++ ys))
  unfolding AllowedDecls
  append-allowed depth [] ys h q = q
  append-allowed depth (x ∷ xs) ys h q = (h.0, append-allowed depth xs ys h.1 q)

  function-allowed : (depth : ℕ) (at : Place) (way : Direction) (o : Option Function) → AllowedDecls depth true (decls_of (function_declared at way o))
  unfolding AllowedDecls
  function-allowed depth at way None = tt
  function-allowed depth at way (Some f) = (tt, directed-allowed depth way f.name (described.Function at.types) [] tt)

  all-between : (n end : ℕ) → list_all is_standard rows ≡ true → list_all is_standard (rows_between rows n end) ≡ true
  all-between n end h = all-take is_standard (end - n) (drop n rows) (all-drop is_standard n rows h)

  items-allowed : (depth : ℕ) (p : Surroundings) → p.rows ≡ rows → (is : List WorldItem) (n : ℕ) (at : Place) → AllowedDecls depth true (decls_of (items_declared p at n is))
  unfolding AllowedDecls
  items-allowed depth p own [] n at = tt
  items-allowed depth p own (i ∷ is) n at = by i.kind (λ n at. items-allowed depth p own is n at)
    where
      by : (what : WorldItemKind) → ((n : ℕ) (at : Place) → AllowedDecls depth true (decls_of (items_declared p at n is))) → AllowedDecls depth true (decls_of (items_declared p at n (record { direction = i.direction; kind = what } ∷ is)))
      by (item.Interface x) again = (
        tt,
        directed-allowed depth i.direction (slice_index_or p.names x.0 []) (described.Instance at.types) _
            (again n (record { indices = at.indices; types = at.types + 1; used = at.used })),
      )
      by (item.Function f) again =
          append-allowed depth (declarations_of at (rows_between p.rows n f.0) ++ function_declared (places_after at (rows_between p.rows n f.0)) i.direction (function_of (slice_get p.rows f.0))) _
          (append-allowed depth (declarations_of at (rows_between p.rows n f.0)) _
          (rows-allowed depth true (rows_between p.rows n f.0) at (subst (λ (ds : List Definition). list_all is_standard (rows_between ds n f.0) ≡ true) (sym own) (all-between n f.0 r.standard)))
          (function-allowed depth (places_after at (rows_between p.rows n f.0)) i.direction (function_of (slice_get p.rows f.0))))
          (again (f.0 + 1) (places_after at (rows_between p.rows n (f.0 + 1))))

  worlds-allowed : (depth : ℕ) (ws : List World) (start : ℕ) (at : ComponentFront) → AllowedDecls (suc depth) true (decls_of (worlds_declared r at start ws))
  unfolding AllowedDecls
  worlds-allowed depth [] start at = tt
  worlds-allowed depth (w ∷ ws) start at =
      (items-allowed depth (surroundings r at) refl w.items start (first_place at), (tt, worlds-allowed depth ws (world_end start w) (world_front rows at start w)))

  -- ---- the component

  module _ (form : IsInPackageForm r) where
    abbrev end : ℕ
    end = interfaces_end 0 r.interfaces

    abbrev behind-interfaces : ComponentFront
    behind-interfaces = interfaces_front rows no_front 0 r.interfaces

    all-worlds : AreWorlds rows (length r.interfaces) 0 end r.worlds
    all-worlds = record { parted = worlds-parted rows 0 r.interfaces r.worlds form.parted; items = form.worlds; placed = r.worlds_placed }

    few-entries : 1 + entries (package_declarations r) ≤ 65535
    few-entries =
        let used = postfix-used rows r.earlier form.postfix in
        let more = interfaces-entries (worlds_declared r behind-interfaces end r.worlds) r.interfaces 0 no_front form.parted (stand rows rows 0 [] used) in
        let worlds = worlds-entries r.worlds 0 end behind-interfaces all-worlds more.1 in
        let same : length (map (λ (i : Interface). i.name) r.interfaces) ≡ length r.interfaces = length-map r.interfaces (λ (i : Interface). i.name) in
        let limit = form.entries in
        omega (arith, more.0, worlds, same, limit)

    begun-all : Ended 0 0 no_front
    begun-all = record {
      indices = record { long = refl; before = λ t m lt named. absurd (omega (arith, lt)) };
      instances = (refl, λ i low. absurd (omega (arith, low)));
      earlier = r.earlier;
      used = postfix-used rows r.earlier form.postfix;
    }

    -- behind the interfaces there are no names
    lows : Before rows (length r.interfaces) end behind-interfaces.indices → (t : ℕ) (m : TypeName) → named_at rows t ≡ Some m → m.interface.0 < length r.interfaces
    lows before t m e = elim (cases_lt t end) [
      | inl l ↦ before.before t m l e
      | inr l ↦ absurd (none-named rows 0 end r.worlds all-worlds.parted all-worlds.items t m l (named-row rows t m e))
    ]

    pub accepted : IsAccepted (component_of r)
    unfolding DeclsInRange AllowedDecls entries_of_decls
    accepted = record {
      in_range = (
        (
          interfaces-range (worlds_declared r behind-interfaces end r.worlds) r.interfaces 0 0 no_front begun-all form.parted form.interfaces r.placed
              (λ e. let zero-more : 0 + length r.interfaces ≡ length r.interfaces = omega arith in
              subst (λ (n : ℕ). DeclsInRange (0 ∷ []) behind-interfaces.types n (decls_of (worlds_declared r behind-interfaces end r.worlds))) (sym zero-more)
              (let ended = subst (λ (n : ℕ). Ended n end behind-interfaces) zero-more e in worlds-range (lows ended.indices) r.worlds 0 end behind-interfaces ended all-worlds)),
          tt,
        ),
        (omega arith, tt),
      );
      allowed = (interfaces-allowed (worlds_declared r behind-interfaces end r.worlds) r.interfaces 0 no_front 2 form.parted r.standard (worlds-allowed 2 r.worlds end behind-interfaces), tt);
      entries = let few = few-entries in omega (arith, few);
    }
