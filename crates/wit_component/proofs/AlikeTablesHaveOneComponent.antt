-- Tables whose rows are alike are in package form together, and have the same component.
use Rattle.std.proofs.Common.{◌≡◌, ℕ, zero, suc, ◌+◌, ◌-◌, ◌<◌, ◌≤◌, Bool, true, cond, not, ◌&&◌, IsTrue, List, [], ◌∷◌, ◌++◌, map, flat_map, sum, take, drop, length, slice_get, Option, None, Some, refl, ap, sym, subst, ◌∙◌, arith}
use Rattle.std.specs.List.{list_all}
use Rattle.std.specs.Str.{bytes_eq}
use Rattle.atoms.specs.Label.{is_label}
use Rattle.std.proofs.lemmas.Bool.Decides.{nat_tests}
use Rattle.ctype_format.specs.Raw.{Decl, Entry, Instance, Component, Export, BinaryFile}
use Rattle.ctype_format.specs.View.{decls_of}
use Rattle.ctype_format.specs.declared.raw.RawDescription.TheVariants as described
use Rattle.tables.specs.Tables.{type_of, function_of, is_there, is_type_id, is_function_id, is_type, option_all, kind_all, definition_all, definition_below, are_earlier, is_standard, is_placed, is_function_of, is_placed_item, is_placed_world, are_placed_worlds}
use Rattle.tables.specs.Parts.{is_package}
use Rattle.tables.proofs.NamesEarlierTypes.{package-whole}
use Rattle.tables.specs.PackageNames.{PackageParts}
use Rattle.tables.specs.Names.{full_name_in, full_name, world_name}
use Rattle.tables.specs.Package.{interface_names}
use Rattle.tables.specs.declared.tables.TypeId.{TypeId}
use Rattle.tables.specs.declared.tables.FunctionId.{FunctionId}
use Rattle.tables.specs.declared.tables.ValType.{ValType}
use Rattle.tables.specs.declared.tables.ValType.TheVariants as val
use Rattle.tables.specs.declared.tables.TypeDef.{TypeDef}
use Rattle.tables.specs.declared.tables.TypeDefKind.{TypeDefKind}
use Rattle.tables.specs.declared.tables.TypeDefKind.TheVariants as kind
use Rattle.tables.specs.declared.tables.TypeName.{TypeName}
use Rattle.tables.specs.declared.tables.Definition.{Definition}
use Rattle.tables.specs.declared.tables.Definition.TheVariants as row
use Rattle.tables.specs.declared.tables.Interface.{Interface}
use Rattle.tables.specs.declared.tables.WorldItemKind.{WorldItemKind}
use Rattle.tables.specs.declared.tables.WorldItemKind.TheVariants as item
use Rattle.tables.specs.declared.tables.Direction.{Direction}
use Rattle.tables.specs.declared.tables.WorldItem.{WorldItem}
use Rattle.tables.specs.declared.tables.World.{World}
use Rattle.tables.specs.declared.tables.Resolve.{Resolve}
use Rattle.package_form.specs.Postfix.{is_unnamed, is_unnamed_row, one_if}
use Rattle.package_form.specs.Ids.{places_where}
use Rattle.package_form.specs.Entries.{entries_of, world_entries, type_entries, table_of}
use Rattle.package_form.specs.References.{row_references}
use Rattle.package_form.specs.Unused.{unnamed_at, inner_rows, is_next, unused_after, are_used}
use Rattle.wit_component.specs.Rows.{Place, row_declarations, place_after, declarations_of, places_after}
use Rattle.wit_component.specs.Component.{instance_export, row_alias, aliases_of, ComponentFront, first_place, interface_direction, interface_declarations, front_after, interfaces_declared, no_front, interfaces_front, surroundings, world_declarations, world_front, worlds_declared, package_declarations, package_export, component_of}
use Rattle.package_form.specs.Reached.{used_in, name_of, name_at}
use Rattle.wit_component.specs.Worlds.{directed, rows_between, function_declared, Surroundings, item_declarations, item_place, items_declared, items_place}
use Rattle.package_form.specs.Ends.{end_of, rows_of, interfaces_end, behind_item, world_end, world_rows, is_parted}
use Rattle.package_form.specs.Reached.{named_interface, reached_by_row, reached_by_world, reached, are_reached}
use Rattle.package_form.specs.Closed.{own_package, is_world_of, has_own, are_of_a_set, has_each_package, is_closed_table, is_closed}
use Rattle.package_form.specs.Form.{is_named, is_own_name, is_own_type, is_own, is_earlier_name, is_earlier_type, is_earlier, uses_earlier, is_owned, is_local, is_use_type, is_use_at, has_ids, are_interfaces, is_package_name, has_full_names, ids_of, is_nameless_type, is_nameless, is_of_world, is_world_row, functions_of, has_items, have_items, IsInPackageForm}
use Rattle.wit_component.specs.ToComponent.{is_labelled, are_labelled}
use Rattle.tables.proofs.ClosedTypesRowByRow.{split, both}
use Rattle.package_form.proofs.PostfixIsDecided.{used-postfix, postfix-used}
use Rattle.wit_component.proofs.AlikeRows.{IsAlike, same, uses, AreAlike, none, one_more}

-- ---- row by row, wherever they stand

module _ (rows : List Definition) where
  abbrev pub Alikes : List Definition → List Definition → Type 0
  Alikes [] [] = Unit {0}
  Alikes [] (e ∷ es) = ⊥
  Alikes (d ∷ ds) [] = ⊥
  Alikes (d ∷ ds) (e ∷ es) = ((n : ℕ) × IsAlike rows n d e) × Alikes ds es

  pub alikes : (n : ℕ) (ds es : List Definition) → AreAlike rows n ds es → Alikes ds es
  alikes _ _ _ (none n) = tt
  alikes _ _ _ (one_more n d e ds es h hs) = ((n, h), alikes (n + 1) ds es hs)

  pub alikes-drop : (n : ℕ) (ds es : List Definition) → Alikes ds es → Alikes (drop n ds) (drop n es)
  alikes-drop zero ds es h = h
  alikes-drop (suc n) [] [] h = tt
  alikes-drop (suc n) [] (e ∷ es) h = absurd h
  alikes-drop (suc n) (d ∷ ds) [] h = absurd h
  alikes-drop (suc n) (d ∷ ds) (e ∷ es) h = alikes-drop n ds es h.1

  pub alikes-take : (n : ℕ) (ds es : List Definition) → Alikes ds es → Alikes (take n ds) (take n es)
  alikes-take zero ds es h = tt
  alikes-take (suc n) [] [] h = tt
  alikes-take (suc n) [] (e ∷ es) h = absurd h
  alikes-take (suc n) (d ∷ ds) [] h = absurd h
  alikes-take (suc n) (d ∷ ds) (e ∷ es) h = (h.0, alikes-take n ds es h.1)

  pub alikes-length : (ds es : List Definition) → Alikes ds es → length es ≡ length ds
  alikes-length [] [] h = refl
  alikes-length [] (e ∷ es) h = absurd h
  alikes-length (d ∷ ds) [] h = absurd h
  alikes-length (d ∷ ds) (e ∷ es) h = ap suc (alikes-length ds es h.1)

  pub alikes-all : (p q : Definition → Bool) → ((n : ℕ) (d e : Definition) → IsAlike rows n d e → q e ≡ p d) → (ds es : List Definition) → Alikes ds es → list_all q es ≡ list_all p ds
  alikes-all p q f [] [] h = refl
  alikes-all p q f [] (e ∷ es) h = absurd h
  alikes-all p q f (d ∷ ds) [] h = absurd h
  alikes-all p q f (d ∷ ds) (e ∷ es) h = ap (λ (b : Bool). b && list_all q es) (f h.0.0 d e h.0.1) ∙ ap (λ (b : Bool). p d && b) (alikes-all p q f ds es h.1)

  pub alikes-map : {A : Type 0} (g : Definition → A) → ((n : ℕ) (d e : Definition) → IsAlike rows n d e → g e ≡ g d) → (ds es : List Definition) → Alikes ds es → map g es ≡ map g ds
  alikes-map g f [] [] h = refl
  alikes-map g f [] (e ∷ es) h = absurd h
  alikes-map g f (d ∷ ds) [] h = absurd h
  alikes-map g f (d ∷ ds) (e ∷ es) h = ap (λ x. x ∷ map g es) (f h.0.0 d e h.0.1) ∙ ap (λ xs. g d ∷ xs) (alikes-map g f ds es h.1)

  pub alikes-flat : {A : Type 0} (g g' : Definition → List A) → ((n : ℕ) (d e : Definition) → IsAlike rows n d e → g' e ≡ g d) → (ds es : List Definition) → Alikes ds es → flat_map g' es ≡ flat_map g ds
  alikes-flat g g' f [] [] h = refl
  alikes-flat g g' f [] (e ∷ es) h = absurd h
  alikes-flat g g' f (d ∷ ds) [] h = absurd h
  alikes-flat g g' f (d ∷ ds) (e ∷ es) h = ap (λ xs. xs ++ flat_map g' es) (f h.0.0 d e h.0.1) ∙ ap (λ xs. g d ++ xs) (alikes-flat g g' f ds es h.1)

  -- what is told of a row alike holds at each place
  pub alikes-at : {X : Type 0} (F : Option Definition → X) → ((n : ℕ) (d e : Definition) → IsAlike rows n d e → F (Some e) ≡ F (Some d)) → (ds es : List Definition) → Alikes ds es
      → (k : ℕ) → F (slice_get es k) ≡ F (slice_get ds k)
  alikes-at F f [] [] h k = refl
  alikes-at F f [] (e ∷ es) h k = absurd h
  alikes-at F f (d ∷ ds) [] h k = absurd h
  alikes-at F f (d ∷ ds) (e ∷ es) h zero = f h.0.0 d e h.0.1
  alikes-at F f (d ∷ ds) (e ∷ es) h (suc k) = alikes-at F f ds es h.1 k

  pub alikes-places : (p : Definition → Bool) → ((n : ℕ) (d e : Definition) → IsAlike rows n d e → p e ≡ p d) → (n : ℕ) (ds es : List Definition) → Alikes ds es → places_where p n es ≡ places_where p n ds
  alikes-places p f n [] [] h = refl
  alikes-places p f n [] (e ∷ es) h = absurd h
  alikes-places p f n (d ∷ ds) [] h = absurd h
  alikes-places p f n (d ∷ ds) (e ∷ es) h =
      ap (λ (b : Bool). cond b (n ∷ places_where p (n + 1) es) (places_where p (n + 1) es)) (f h.0.0 d e h.0.1)
      ∙ ap (λ (ps : List ℕ). cond (p d) (n ∷ ps) ps) (alikes-places p f (n + 1) ds es h.1)

  -- ---- what rows alike share

  by-row : {X : Type 0} (g : Definition → X) → ((x : Option TypeName) (t u : TypeId) → g (row.Type (record { name = x; kind = kind.Use u })) ≡ g (row.Type (record { name = x; kind = kind.Use t })))
      → (n : ℕ) (d e : Definition) → IsAlike rows n d e → g e ≡ g d
  by-row g f n _ _ (same d) = refl
  by-row g f n _ _ (uses x t u y at to below) = f x t u

  same-unnamed : (n : ℕ) (d e : Definition) → IsAlike rows n d e → is_unnamed e ≡ is_unnamed d
  same-unnamed = by-row is_unnamed (λ x t u. refl)

  same-named : (n : ℕ) (d e : Definition) → IsAlike rows n d e → is_named e ≡ is_named d
  same-named = by-row is_named (λ x t u. refl)

  same-references : (n : ℕ) (d e : Definition) → IsAlike rows n d e → row_references e ≡ row_references d
  same-references = by-row row_references (λ x t u. refl)

  same-entries : (n : ℕ) (d e : Definition) → IsAlike rows n d e → entries_of e ≡ entries_of d
  same-entries = by-row entries_of by
    where
      by : (x : Option TypeName) (t u : TypeId) → entries_of (row.Type (record { name = x; kind = kind.Use u })) ≡ entries_of (row.Type (record { name = x; kind = kind.Use t }))
      by None t u = refl
      by (Some n) t u = refl

  same-declarations : (at : Place) (n : ℕ) (d e : Definition) → IsAlike rows n d e → row_declarations at e ≡ row_declarations at d
  same-declarations at = by-row (row_declarations at) by
    where
      by : (x : Option TypeName) (t u : TypeId) → row_declarations at (row.Type (record { name = x; kind = kind.Use u })) ≡ row_declarations at (row.Type (record { name = x; kind = kind.Use t }))
      by None t u = refl
      by (Some n) t u = refl

  same-place : (at : Place) (n : ℕ) (d e : Definition) → IsAlike rows n d e → place_after at e ≡ place_after at d
  same-place at = by-row (place_after at) by
    where
      by : (x : Option TypeName) (t u : TypeId) → place_after at (row.Type (record { name = x; kind = kind.Use u })) ≡ place_after at (row.Type (record { name = x; kind = kind.Use t }))
      by None t u = refl
      by (Some n) t u = refl

  same-labelled : (n : ℕ) (d e : Definition) → IsAlike rows n d e → is_labelled e ≡ is_labelled d
  same-labelled = by-row is_labelled (λ x t u. refl)

  same-standard : (n : ℕ) (d e : Definition) → IsAlike rows n d e → is_standard e ≡ is_standard d
  same-standard = by-row is_standard (λ x t u. refl)

  declared : (at : Place) (ds es : List Definition) → Alikes ds es → declarations_of at es ≡ declarations_of at ds
  declared at [] [] h = refl
  declared at [] (e ∷ es) h = absurd h
  declared at (d ∷ ds) [] h = absurd h
  declared at (d ∷ ds) (e ∷ es) h =
      ap (λ xs. xs ++ declarations_of (place_after at e) es) (same-declarations at h.0.0 d e h.0.1)
      ∙ ap (λ p. row_declarations at d ++ declarations_of p es) (same-place at h.0.0 d e h.0.1)
      ∙ ap (λ xs. row_declarations at d ++ xs) (declared (place_after at d) ds es h.1)

  placed-after : (at : Place) (ds es : List Definition) → Alikes ds es → places_after at es ≡ places_after at ds
  placed-after at [] [] h = refl
  placed-after at [] (e ∷ es) h = absurd h
  placed-after at (d ∷ ds) [] h = absurd h
  placed-after at (d ∷ ds) (e ∷ es) h = ap (λ p. places_after p es) (same-place at h.0.0 d e h.0.1) ∙ placed-after (place_after at d) ds es h.1

-- ---- the whole table

module _ (rows new : List Definition) (h : Alikes rows rows new) where
  get-same : {X : Type 0} (F : Option Definition → X) → ((x : Option TypeName) (t u : TypeId) → F (Some (row.Type (record { name = x; kind = kind.Use u }))) ≡ F (Some (row.Type (record { name = x; kind = kind.Use t }))))
      → (k : ℕ) → F (slice_get new k) ≡ F (slice_get rows k)
  get-same F f k = alikes-at rows F (by-row rows (λ d. F (Some d)) f) rows new h k

  name-same : (t : TypeId) → name_at new (Some t) ≡ name_at rows (Some t)
  name-same t = get-same (λ o. name_of (type_of o)) (λ x t u. refl) t.0

  own-same : (k : ℕ) (t : TypeId) → is_own new k t ≡ is_own rows k t
  own-same k t = get-same (λ o. is_own_type k (type_of o)) (λ x t u. refl) t.0

  earlier-name : (ds : List Definition) (k : ℕ) (t : TypeId) → is_earlier ds k t ≡ is_earlier_name k (name_at ds (Some t))
  earlier-name ds k t = by (type_of (slice_get ds t.0))
    where
      by : (o : Option TypeDef) → is_earlier_type k o ≡ is_earlier_name k (name_of o)
      by None = refl
      by (Some d) = refl

  earlier-same : (k : ℕ) (t : TypeId) → is_earlier new k t ≡ is_earlier rows k t
  earlier-same k t = earlier-name new k t ∙ ap (is_earlier_name k) (name-same t) ∙ sym (earlier-name rows k t)

  type-same : (t : TypeId) → is_type_id new t ≡ is_type_id rows t
  type-same t = get-same (λ o. is_there (type_of o)) (λ x t u. refl) t.0

  function-same : (f : FunctionId) → is_function_id new f ≡ is_function_id rows f
  function-same f = get-same (λ o. is_there (function_of o)) (λ x t u. refl) f.0

  unnamed-same : (t : TypeId) → unnamed_at new t ≡ unnamed_at rows t
  unnamed-same t = ap (λ (b : Bool). one_if b t.0) (get-same is_unnamed_row (λ x t u. refl) t.0)

  use-same : (t : TypeId) → is_use_at new t ≡ is_use_at rows t
  use-same t = get-same (λ o. is_use_type (type_of o)) (λ x t u. refl) t.0

  all-same : {A : Type 0} (p q : A → Bool) → ((x : A) → q x ≡ p x) → (xs : List A) → list_all q xs ≡ list_all p xs
  all-same p q f [] = refl
  all-same p q f (x ∷ xs) = ap (λ (b : Bool). b && list_all q xs) (f x) ∙ ap (λ (b : Bool). p x && b) (all-same p q f xs)

  flat-same : {A B : Type 0} (p q : A → List B) → ((x : A) → q x ≡ p x) → (xs : List A) → flat_map q xs ≡ flat_map p xs
  flat-same p q f [] = refl
  flat-same p q f (x ∷ xs) = ap (λ ys. ys ++ flat_map q xs) (f x) ∙ ap (λ ys. p x ++ ys) (flat-same p q f xs)

  uses-earlier-same : (k : ℕ) (c : TypeDefKind) → uses_earlier new k c ≡ uses_earlier rows k c
  uses-earlier-same k (kind.Use t) = earlier-same k t
  uses-earlier-same k (kind.Alias v) = refl
  uses-earlier-same k (kind.List v) = refl
  uses-earlier-same k (kind.Option v) = refl
  uses-earlier-same k (kind.Result ok error) = refl
  uses-earlier-same k (kind.Tuple vs) = refl
  uses-earlier-same k (kind.Record fs) = refl
  uses-earlier-same k (kind.Variant cs) = refl
  uses-earlier-same k (kind.Enum ns) = refl
  uses-earlier-same k (kind.Flags ns) = refl

  owned-same : (k : ℕ) (d : Definition) → is_owned new k d ≡ is_owned rows k d
  owned-same k (row.Type d) = ap (λ (b : Bool). is_own_name k d.name && b) (uses-earlier-same k d.kind)
  owned-same k (row.Function f) = refl

  local-same : (k n : ℕ) (d e : Definition) → IsAlike rows n d e → is_local new k e ≡ is_local rows k d
  local-same k n _ _ (same d) =
      ap (λ (b : Bool). b && list_all (is_own new k) (row_references d)) (owned-same k d)
      ∙ ap (λ (b : Bool). is_owned rows k d && b) (all-same (is_own rows k) (is_own new k) (own-same k) (row_references d))
  local-same k n _ _ (uses x t u y at to below) =
      ap (λ (b : Bool). (is_own_name k x && b) && true) (earlier-same k u ∙ earlier-name rows k u ∙ ap (is_earlier_name k) (to ∙ sym at) ∙ sym (earlier-name rows k t))

  inner-same : (n : ℕ) (d e : Definition) → IsAlike rows n d e → inner_rows new e ≡ inner_rows rows d
  inner-same n d e a = ap (flat_map (unnamed_at new)) (same-references rows n d e a) ∙ flat-same (unnamed_at rows) (unnamed_at new) unnamed-same (row_references d)

  next-same : (unused inner : List ℕ) (n : ℕ) (d e : Definition) → IsAlike rows n d e → is_next unused inner e ≡ is_next unused inner d
  next-same unused inner = by-row rows (is_next unused inner) (λ x t u. refl)

  after-same : (m : ℕ) (unused inner : List ℕ) (n : ℕ) (d e : Definition) → IsAlike rows n d e → unused_after m unused inner e ≡ unused_after m unused inner d
  after-same m unused inner = by-row rows (unused_after m unused inner) (λ x t u. refl)

  used-same : (m : ℕ) (unused : List ℕ) (ds es : List Definition) → Alikes rows ds es → are_used new m unused es ≡ are_used rows m unused ds
  used-same m unused [] [] a = refl
  used-same m unused [] (e ∷ es) a = absurd a
  used-same m unused (d ∷ ds) [] a = absurd a
  used-same m unused (d ∷ ds) (e ∷ es) a =
      ap (λ ps. is_next unused ps e && are_used new (m + 1) (unused_after m unused ps e) es) (inner-same a.0.0 d e a.0.1)
      ∙ ap (λ (b : Bool). b && are_used new (m + 1) (unused_after m unused (inner_rows rows d) e) es) (next-same unused (inner_rows rows d) a.0.0 d e a.0.1)
      ∙ ap (λ ps. is_next unused (inner_rows rows d) d && are_used new (m + 1) ps es) (after-same m unused (inner_rows rows d) a.0.0 d e a.0.1)
      ∙ ap (λ (b : Bool). is_next unused (inner_rows rows d) d && b) (used-same (m + 1) (unused_after m unused (inner_rows rows d) d) ds es a.1)

  -- ---- interfaces

  rows-alike : (start : ℕ) (i : Interface) → Alikes rows (rows_of rows start i) (rows_of new start i)
  rows-alike start i = alikes-take rows (end_of start i - start) (drop start rows) (drop start new) (alikes-drop rows start rows new h)

  ids-same : (start : ℕ) (i : Interface) → has_ids new start i ≡ has_ids rows start i
  ids-same start i =
      ap (λ ps. bytes_eq (ids_of i) ps && (list_all (is_use_at new) i.uses && list_all (λ t. not (is_use_at new t)) i.types))
      (alikes-places rows is_named (same-named rows) start (rows_of rows start i) (rows_of new start i) (rows-alike start i))
      ∙ ap (λ (b : Bool). bytes_eq (ids_of i) (places_where is_named start (rows_of rows start i)) && (b && list_all (λ t. not (is_use_at new t)) i.types))
      (all-same (is_use_at rows) (is_use_at new) use-same i.uses)
      ∙ ap (λ (b : Bool). bytes_eq (ids_of i) (places_where is_named start (rows_of rows start i)) && (list_all (is_use_at rows) i.uses && b))
      (all-same (λ t. not (is_use_at rows t)) (λ t. not (is_use_at new t)) (λ t. ap not (use-same t)) i.types)

  interfaces-same : (k start : ℕ) (is : List Interface) → are_interfaces new k start is ≡ are_interfaces rows k start is
  interfaces-same k start [] = refl
  interfaces-same k start (i ∷ is) =
      ap (λ (b : Bool). (b && list_all (is_local new k) (rows_of new start i)) && are_interfaces new (k + 1) (end_of start i) is) (ids-same start i)
      ∙ ap (λ (b : Bool). (has_ids rows start i && b) && are_interfaces new (k + 1) (end_of start i) is)
      (alikes-all rows (is_local rows k) (is_local new k) (local-same k) (rows_of rows start i) (rows_of new start i) (rows-alike start i))
      ∙ ap (λ (b : Bool). (has_ids rows start i && list_all (is_local rows k) (rows_of rows start i)) && b) (interfaces-same (k + 1) (end_of start i) is)

  labelled-same : (start : ℕ) (is : List Interface) → are_labelled new start is ≡ are_labelled rows start is
  labelled-same start [] = refl
  labelled-same start (i ∷ is) =
      ap (λ (b : Bool). (is_label i.name && b) && are_labelled new (end_of start i) is)
      (alikes-all rows is_labelled is_labelled (same-labelled rows) (rows_of rows start i) (rows_of new start i) (rows-alike start i))
      ∙ ap (λ (b : Bool). (is_label i.name && list_all is_labelled (rows_of rows start i)) && b) (labelled-same (end_of start i) is)

  -- ---- worlds

  nameless-same : (t : TypeId) → is_nameless new t ≡ is_nameless rows t
  nameless-same t = get-same (λ o. is_nameless_type (type_of o)) (λ x t u. refl) t.0

  world-row-same : (k n : ℕ) (d e : Definition) → IsAlike rows n d e → is_world_row new k e ≡ is_world_row rows k d
  world-row-same k n _ _ (same d) = ap (λ (b : Bool). is_of_world k d && b) (all-same (is_nameless rows) (is_nameless new) nameless-same (row_references d))
  world-row-same k n _ _ (uses x t u y at to below) = refl

  world-rows-alike : (start : ℕ) (w : World) → Alikes rows (world_rows rows start w) (world_rows new start w)
  world-rows-alike start w = alikes-take rows (world_end start w - start) (drop start rows) (drop start new) (alikes-drop rows start rows new h)

  worlds-same : (k start : ℕ) (ws : List World) → have_items new k start ws ≡ have_items rows k start ws
  worlds-same k start [] = refl
  worlds-same k start (w ∷ ws) =
      ap (λ ps. (bytes_eq ps (functions_of w) && list_all (is_world_row new k) (world_rows new start w)) && have_items new (k + 1) (world_end start w) ws)
      (alikes-places rows is_named (same-named rows) start (world_rows rows start w) (world_rows new start w) (world-rows-alike start w))
      ∙ ap (λ (b : Bool). (has_items rows start w && b) && have_items new (k + 1) (world_end start w) ws)
      (alikes-all rows (is_world_row rows k) (is_world_row new k) (world-row-same k) (world_rows rows start w) (world_rows new start w) (world-rows-alike start w))
      ∙ ap (λ (b : Bool). (has_items rows start w && list_all (is_world_row rows k) (world_rows rows start w)) && b) (worlds-same (k + 1) (world_end start w) ws)

  -- ---- what every table keeps

  vals-same : (v : ValType) → is_type new v ≡ is_type rows v
  vals-same (val.Primitive p) = refl
  vals-same val.String = refl
  vals-same (val.Id t) = type-same t

  if-same : (v : Option ValType) → option_all (is_type new) v ≡ option_all (is_type rows) v
  if-same None = refl
  if-same (Some v) = vals-same v

  kinds-same : (k : TypeDefKind) → kind_all (is_type new) k ≡ kind_all (is_type rows) k
  kinds-same (kind.Use t) = type-same t
  kinds-same (kind.Alias v) = vals-same v
  kinds-same (kind.List v) = vals-same v
  kinds-same (kind.Option v) = vals-same v
  kinds-same (kind.Result ok error) =
      ap (λ (b : Bool). b && option_all (is_type new) error) (if-same ok) ∙ ap (λ (b : Bool). option_all (is_type rows) ok && b) (if-same error)
  kinds-same (kind.Tuple vs) = all-same (is_type rows) (is_type new) vals-same vs
  kinds-same (kind.Record fs) = all-same (λ f. is_type rows f.ty) (λ f. is_type new f.ty) (λ f. vals-same f.ty) fs
  kinds-same (kind.Variant cs) = all-same (λ c. option_all (is_type rows) c.ty) (λ c. option_all (is_type new) c.ty) (λ c. if-same c.ty) cs
  kinds-same (kind.Enum ns) = refl
  kinds-same (kind.Flags ns) = refl

  definitions-same : (d : Definition) → definition_all (is_type new) d ≡ definition_all (is_type rows) d
  definitions-same (row.Type d) = kinds-same d.kind
  definitions-same (row.Function f) =
      ap (λ (b : Bool). b && option_all (is_type new) f.result) (all-same (λ p. is_type rows p.ty) (λ p. is_type new p.ty) (λ p. vals-same p.ty) f.params)
      ∙ ap (λ (b : Bool). list_all (λ p. is_type rows p.ty) f.params && b) (if-same f.result)

  names-type : (t : TypeId) (y : TypeName) → name_at rows (Some t) ≡ Some y → is_type_id rows t ≡ true
  names-type t y e = by (type_of (slice_get rows t.0)) e
    where
      by : (o : Option TypeDef) → name_of o ≡ Some y → is_there o ≡ true
      by None e = absurd (cc)
      by (Some d) e = refl

  typed-same : (n : ℕ) (d e : Definition) → IsAlike rows n d e → definition_all (is_type new) e ≡ definition_all (is_type rows) d
  typed-same n _ _ (same d) = definitions-same d
  typed-same n _ _ (uses x t u y at to below) = type-same u ∙ names-type u y to ∙ sym (names-type t y at)

  earlier-new : (n : ℕ) (ds es : List Definition) → AreAlike rows n ds es → are_earlier n ds ≡ true → are_earlier n es ≡ true
  earlier-new _ _ _ (none n) h = h
  earlier-new _ _ _ (one_more n d e ds es a rest) h =
      let s = split (definition_below n d) (are_earlier (n + 1) ds) h in
      both (definition_below n e) (are_earlier (n + 1) es) (by d e a s.0) (earlier-new (n + 1) ds es rest s.1)
    where
      by : (d e : Definition) → IsAlike rows n d e → definition_below n d ≡ true → definition_below n e ≡ true
      by _ _ (same d) q = q
      by _ _ (uses x t u y at to below) q = grind (arith, nat_tests, below)

  placed-same : (i : Interface) → is_placed new i ≡ is_placed rows i
  placed-same i =
      ap (λ (b : Bool). b && (list_all (is_type_id new) i.types && list_all (is_function_id new) i.functions)) (all-same (is_type_id rows) (is_type_id new) type-same i.uses)
      ∙ ap (λ (b : Bool). list_all (is_type_id rows) i.uses && (b && list_all (is_function_id new) i.functions)) (all-same (is_type_id rows) (is_type_id new) type-same i.types)
      ∙ ap (λ (b : Bool). list_all (is_type_id rows) i.uses && (list_all (is_type_id rows) i.types && b)) (all-same (is_function_id rows) (is_function_id new) function-same i.functions)

  item-same : (count w : ℕ) (i : WorldItemKind) → is_placed_item new count w i ≡ is_placed_item rows count w i
  item-same count w (item.Interface i) = refl
  item-same count w (item.Function f) = get-same (λ o. is_function_of w (function_of o)) (λ x t u. refl) f.0

  placed-worlds-same : (count w : ℕ) (ws : List World) → are_placed_worlds new count w ws ≡ are_placed_worlds rows count w ws
  placed-worlds-same count w [] = refl
  placed-worlds-same count w (x ∷ xs) =
      ap (λ (b : Bool). b && are_placed_worlds new count (w + 1) xs)
      (all-same (λ i. is_placed_item rows count w i.kind) (λ i. is_placed_item new count w i.kind) (λ i. item-same count w i.kind) x.items)
      ∙ ap (λ (b : Bool). is_placed_world rows count w x && b) (placed-worlds-same count (w + 1) xs)

  -- ---- what is written

  aliases-same : (n : ℕ) (d e : Definition) → IsAlike rows n d e → row_alias new e ≡ row_alias rows d
  aliases-same n _ _ (same d) = by (used_in d)
    where
      by : (o : Option TypeId) → instance_export (name_at new o) ≡ instance_export (name_at rows o)
      by None = refl
      by (Some t) = ap instance_export (name-same t)
  aliases-same n _ _ (uses x t u y at to below) = ap instance_export (name-same u ∙ to ∙ sym at)

  -- the same interfaces are reached
  reached-row-same : (n : ℕ) (d e : Definition) → IsAlike rows n d e → reached_by_row new e ≡ reached_by_row rows d
  reached-row-same n _ _ (same d) = by (used_in d)
    where
      by : (o : Option TypeId) → named_interface (name_at new o) ≡ named_interface (name_at rows o)
      by None = refl
      by (Some t) = ap named_interface (name-same t)
  reached-row-same n _ _ (uses x t u y at to below) = ap named_interface (name-same u ∙ to ∙ sym at)

  reached-same : (ws : List World) → reached new ws ≡ reached rows ws
  reached-same ws = ap (λ (ns : List ℕ). ns ++ flat_map reached_by_world ws) (alikes-flat rows (reached_by_row rows) (reached_by_row new) reached-row-same rows new h)

  interface-same : (at : ComponentFront) (start : ℕ) (i : Interface) (way : Direction) (name : List ℕ)
      → interface_declarations new at (rows_of new start i) way name ≡ interface_declarations rows at (rows_of rows start i) way name
  interface-same at start i way name =
      let a = alikes-flat rows (row_alias rows) (row_alias new) aliases-same (rows_of rows start i) (rows_of new start i) (rows-alike start i) in
      let d = declared rows (first_place at) (rows_of rows start i) (rows_of new start i) (rows-alike start i) in
      ap (λ xs. xs ++ Entry (Instance (decls_of (declarations_of (first_place at) (rows_of new start i)))) ∷ directed way name (described.Instance (at.types + length xs)) ∷ []) a
      ∙ ap (λ ds. aliases_of rows (rows_of rows start i) ++ Entry (Instance (decls_of ds)) ∷ directed way name (described.Instance (at.types + length (aliases_of rows (rows_of rows start i)))) ∷ []) d

  front-same : (at : ComponentFront) (start : ℕ) (i : Interface) → front_after new at (rows_of new start i) ≡ front_after rows at (rows_of rows start i)
  front-same at start i =
      let a = alikes-flat rows (row_alias rows) (row_alias new) aliases-same (rows_of rows start i) (rows_of new start i) (rows-alike start i) in
      let p = placed-after rows (first_place at) (rows_of rows start i) (rows_of new start i) (rows-alike start i) in
      λ j. record { indices = (p j).indices; types = at.types + length (a j) + 1; instances = at.instances ++ (at.types + length (a j)) ∷ [] }

  -- ---- worlds

  between-alike : (start end : ℕ) → Alikes rows (rows_between rows start end) (rows_between new start end)
  between-alike start end = alikes-take rows (end - start) (drop start rows) (drop start new) (alikes-drop rows start rows new h)

  function-of-same : (k : ℕ) → function_of (slice_get new k) ≡ function_of (slice_get rows k)
  function-of-same k = get-same function_of (λ x t u. refl) k

  item-place-same : (at : Place) (start : ℕ) (what : WorldItemKind) → item_place new at start what ≡ item_place rows at start what
  item-place-same at start (item.Interface i) = refl
  item-place-same at start (item.Function f) = placed-after rows at (rows_between rows start (f.0 + 1)) (rows_between new start (f.0 + 1)) (between-alike start (f.0 + 1))

  module _ (names : List (List ℕ)) (instances : List ℕ) where
    abbrev told : List Definition → Surroundings
    told ds = record { rows = ds; names = names; instances = instances }

    item-declared-same : (at : Place) (start : ℕ) (way : Direction) (what : WorldItemKind) → item_declarations (told new) at start way what ≡ item_declarations (told rows) at start way what
    item-declared-same at start way (item.Interface i) = refl
    item-declared-same at start way (item.Function f) =
        let inner = declared rows at (rows_between rows start f.0) (rows_between new start f.0) (between-alike start f.0) in
        let place = placed-after rows at (rows_between rows start f.0) (rows_between new start f.0) (between-alike start f.0) in
        λ j. inner j ++ function_declared (place j) way (function-of-same f.0 j)

    items-declared-same : (at : Place) (start : ℕ) (is : List WorldItem) → items_declared (told new) at start is ≡ items_declared (told rows) at start is
    items-declared-same at start [] = refl
    items-declared-same at start (i ∷ is) =
        ap (λ xs. xs ++ items_declared (told new) (item_place new at start i.kind) (behind_item start i.kind) is) (item-declared-same at start i.direction i.kind)
        ∙ ap (λ p. item_declarations (told rows) at start i.direction i.kind ++ items_declared (told new) p (behind_item start i.kind) is) (item-place-same at start i.kind)
        ∙ ap (λ xs. item_declarations (told rows) at start i.direction i.kind ++ xs) (items-declared-same (item_place rows at start i.kind) (behind_item start i.kind) is)

  items-place-same : (at : Place) (start : ℕ) (is : List WorldItem) → items_place new at start is ≡ items_place rows at start is
  items-place-same at start [] = refl
  items-place-same at start (i ∷ is) =
      ap (λ p. items_place new p (behind_item start i.kind) is) (item-place-same at start i.kind) ∙ items-place-same (item_place rows at start i.kind) (behind_item start i.kind) is

  world-front-same : (at : ComponentFront) (start : ℕ) (w : World) → world_front new at start w ≡ world_front rows at start w
  world-front-same at start w = ap (λ (p : Place). record { indices = p.indices; types = at.types + 1; instances = at.instances }) (items-place-same (first_place at) start w.items)

  interfaces-front-same : (at : ComponentFront) (start : ℕ) (is : List Interface) → interfaces_front new at start is ≡ interfaces_front rows at start is
  interfaces-front-same at start [] = refl
  interfaces-front-same at start (i ∷ is) =
      ap (λ f. interfaces_front new f (end_of start i) is) (front-same at start i) ∙ interfaces-front-same (front_after rows at (rows_of rows start i)) (end_of start i) is

-- ---- packages

abbrev file_with : List Decl → BinaryFile
file_with ds = record { types = Component (decls_of ds) ∷ []; exports = record { name = package_export; type = 0 } ∷ [] }

-- a package with the names and the interfaces of another, and rows alike
pub record IsAlikePackage (r p : Resolve) : Type 0 where
  pub packages : p.packages ≡ r.packages
  pub interfaces : p.interfaces ≡ r.interfaces
  pub worlds : p.worlds ≡ r.worlds
  pub definitions : AreAlike r.definitions 0 r.definitions p.definitions

-- tables alike are those of a package together
pub package-same : (r : Resolve) (new : List Definition) → AreAlike r.definitions 0 r.definitions new → is_package (length r.packages) new r.interfaces r.worlds ≡ true
package-same r new a =
    let h = alikes r.definitions 0 r.definitions new a in
    package-whole (length r.packages) new r.interfaces r.worlds (record {
      earlier = earlier-new r.definitions new h 0 r.definitions new a r.earlier;
      typed = alikes-all r.definitions (definition_all (is_type r.definitions)) (definition_all (is_type new)) (typed-same r.definitions new h) r.definitions new h ∙ r.typed;
      standard = alikes-all r.definitions is_standard is_standard (same-standard r.definitions) r.definitions new h ∙ r.standard;
      placed = all-same r.definitions new h (is_placed r.definitions) (is_placed new) (placed-same r.definitions new h) r.interfaces ∙ r.placed;
      grouped = r.grouped;
      worlds_grouped = r.worlds_grouped;
      worlds_placed = placed-worlds-same r.definitions new h (length r.interfaces) 0 r.worlds ∙ r.worlds_placed;
    })

module _ (r p : Resolve) (a : IsAlikePackage r p) where
  abbrev like : Alikes r.definitions r.definitions p.definitions
  like = alikes r.definitions 0 r.definitions p.definitions a.definitions

  full-name : (i : Interface) → full_name p i ≡ full_name r i
  full-name i = ap (λ (ps : List PackageParts). full_name_in (slice_get ps i.«package».0) i.name) a.packages

  abbrev way : Interface → Direction
  way i = interface_direction (own_package r.packages) i

  written : (at : ComponentFront) (start : ℕ) (is : List Interface) → interfaces_declared p at start is ≡ interfaces_declared r at start is
  written at start [] = refl
  written at start (i ∷ is) =
      ap (λ ds. ds ++ interfaces_declared p (front_after p.definitions at (rows_of p.definitions start i)) (end_of start i) is)
      (interface-same r.definitions p.definitions like at start i (interface_direction (own_package p.packages) i) (full_name p i)
      ∙ ap (λ (ps : List PackageParts). interface_declarations r.definitions at (rows_of r.definitions start i) (interface_direction (own_package ps) i) (full_name p i)) a.packages
      ∙ ap (interface_declarations r.definitions at (rows_of r.definitions start i) (way i)) (full-name i))
      ∙ ap (λ f. interface_declarations r.definitions at (rows_of r.definitions start i) (way i) (full_name r i) ++ interfaces_declared p f (end_of start i) is)
      (front-same r.definitions p.definitions like at start i)
      ∙ ap (λ ds. interface_declarations r.definitions at (rows_of r.definitions start i) (way i) (full_name r i) ++ ds) (written (front_after r.definitions at (rows_of r.definitions start i)) (end_of start i) is)

  names-are : interface_names p ≡ interface_names r
  names-are = λ j. map (λ i. full_name_in (slice_get (a.packages j) i.«package».0) i.name) (a.interfaces j)

  world-name : (w : World) → world_name p w ≡ world_name r w
  world-name w = ap (λ (ps : List PackageParts). full_name_in (slice_get ps w.«package».0) w.name) a.packages

  world-written : (at : ComponentFront) (start : ℕ) (w : World) → world_declarations p at start w ≡ world_declarations r at start w
  world-written at start w =
      let items : items_declared (surroundings p at) (first_place at) start w.items ≡ items_declared (surroundings r at) (first_place at) start w.items =
      ap (λ (ns : List (List ℕ)). items_declared (record { rows = p.definitions; names = ns; instances = at.instances }) (first_place at) start w.items) names-are
      ∙ items-declared-same r.definitions p.definitions like (interface_names r) at.instances (first_place at) start w.items in
      λ j. Entry (Component (decls_of (items j))) ∷ Export (world-name w j) (described.Component at.types) ∷ []

  worlds-written : (at : ComponentFront) (start : ℕ) (ws : List World) → worlds_declared p at start ws ≡ worlds_declared r at start ws
  worlds-written at start [] = refl
  worlds-written at start (w ∷ ws) =
      ap (λ ds. ds ++ worlds_declared p (world_front p.definitions at start w) (world_end start w) ws) (world-written at start w)
      ∙ ap (λ f. world_declarations r at start w ++ worlds_declared p f (world_end start w) ws) (world-front-same r.definitions p.definitions like at start w)
      ∙ ap (λ ds. world_declarations r at start w ++ ds) (worlds-written (world_front r.definitions at start w) (world_end start w) ws)

  package-written : package_declarations p ≡ package_declarations r
  package-written =
      let end = interfaces_end 0 r.interfaces in
      let first : interfaces_declared p no_front 0 p.interfaces ≡ interfaces_declared r no_front 0 r.interfaces = ap (interfaces_declared p no_front 0) a.interfaces ∙ written no_front 0 r.interfaces in
      let front : interfaces_front p.definitions no_front 0 r.interfaces ≡ interfaces_front r.definitions no_front 0 r.interfaces = interfaces-front-same r.definitions p.definitions like no_front 0 r.interfaces in
      ap (λ ds. ds ++ worlds_declared p (interfaces_front p.definitions no_front 0 p.interfaces) (interfaces_end 0 p.interfaces) p.worlds) first
      ∙ ap (λ (is : List Interface). interfaces_declared r no_front 0 r.interfaces ++ worlds_declared p (interfaces_front p.definitions no_front 0 is) (interfaces_end 0 is) p.worlds) a.interfaces
      ∙ ap (λ (f : ComponentFront). interfaces_declared r no_front 0 r.interfaces ++ worlds_declared p f end p.worlds) front
      ∙ ap (λ (ws : List World). interfaces_declared r no_front 0 r.interfaces ++ worlds_declared p (interfaces_front r.definitions no_front 0 r.interfaces) end ws) a.worlds
      ∙ ap (λ ds. interfaces_declared r no_front 0 r.interfaces ++ ds) (worlds-written (interfaces_front r.definitions no_front 0 r.interfaces) end r.worlds)

  -- they have the same component
  pub component-same : component_of p ≡ component_of r
  component-same = ap file_with package-written

  pub labels-same : IsTrue (are_labelled r.definitions 0 r.interfaces) → IsTrue (are_labelled p.definitions 0 p.interfaces)
  labels-same h = ap (are_labelled p.definitions 0) a.interfaces ∙ labelled-same r.definitions p.definitions like 0 r.interfaces ∙ h

  entries-same : type_entries (table_of p) ≡ type_entries (table_of r)
  entries-same =
      ap (λ (is : List Interface). 1 + length (map (λ (i : Interface). i.name) is) + (sum (map world_entries p.worlds) + sum (map entries_of p.definitions))) a.interfaces
      ∙ ap (λ (ws : List World). 1 + length (map (λ (i : Interface). i.name) r.interfaces) + (sum (map world_entries ws) + sum (map entries_of p.definitions))) a.worlds
      ∙ ap (λ (ns : List ℕ). 1 + length (map (λ (i : Interface). i.name) r.interfaces) + (sum (map world_entries r.worlds) + sum ns))
      (alikes-map r.definitions entries_of (same-entries r.definitions) r.definitions p.definitions like)

  names-same : has_full_names p ≡ has_full_names r
  names-same = ap (list_all is_package_name) a.packages

  closed-same : is_closed p ≡ is_closed r
  closed-same = (λ j. is_closed_table (a.packages j) (a.interfaces j) (a.worlds j) p.definitions) ∙ ap (within r.packages r.interfaces r.worlds) (reached-same r.definitions p.definitions like r.worlds)
    where
      -- a table is closed by what it reaches
      within : List PackageParts → List Interface → List World → List ℕ → Bool
      within ps is ws places =
          has_own (own_package ps) is ws && (are_of_a_set ps && (has_each_package (own_package ps) 0 is && (list_all (is_world_of (own_package ps)) ws && are_reached (own_package ps) places 0 is)))

  -- they are in package form together
  pub form-same : IsInPackageForm r → IsInPackageForm p
  form-same f = record {
    closed = closed-same ∙ f.closed;
    names = names-same ∙ f.names;
    parted =
        ap (λ (n : ℕ). is_parted n 0 p.interfaces p.worlds) (alikes-length r.definitions r.definitions p.definitions like)
        ∙ ap (λ (is : List Interface). is_parted (length r.definitions) 0 is p.worlds) a.interfaces
        ∙ ap (is_parted (length r.definitions) 0 r.interfaces) a.worlds ∙ f.parted;
    interfaces = ap (are_interfaces p.definitions 0 0) a.interfaces ∙ interfaces-same r.definitions p.definitions like 0 0 r.interfaces ∙ f.interfaces;
    worlds =
        ap (λ (is : List Interface). have_items p.definitions 0 (interfaces_end 0 is) p.worlds) a.interfaces
        ∙ ap (have_items p.definitions 0 (interfaces_end 0 r.interfaces)) a.worlds
        ∙ worlds-same r.definitions p.definitions like 0 (interfaces_end 0 r.interfaces) r.worlds ∙ f.worlds;
    postfix = used-postfix p.definitions p.earlier (used-same r.definitions p.definitions like 0 [] r.definitions p.definitions like ∙ postfix-used r.definitions r.earlier f.postfix);
    entries = subst (λ (n : ℕ). n ≤ 65535) (sym entries-same) f.entries;
  }
