-- What is written of a package is read as that package, but that a used name may stand for another row of the same name.
use Rattle.std.proofs.Common.{◌≡◌, ◌<◌, ◌≤◌, ◌-◌, IsTrue, true, false, cond, ◌&&◌, nat_le, nat_lt, ℕ, zero, suc, ◌+◌, List, [], ◌∷◌, ◌++◌, take, drop, length, get_or, slice_get, slice_index_or, Option, None, Some, refl, ap, sym, subst, ◌∙◌, arith, append_assoc, append-nil, length-append, take_all, take-add, eqb-true, inl, inr}
use Rattle.std.specs.List.{list_all}
use Rattle.std.specs.Option.{option_map}
use Rattle.std.proofs.lemmas.Bool.{leb-true, ltb-true, cases_lt}
use Rattle.std.proofs.lemmas.List.{get_or-map}
use Rattle.std.proofs.lemmas.Slice.Eq.{bytes_eq-Decides}
use Rattle.atoms.specs.Label.{is_label}
use Rattle.ctype_format.specs.Raw.{Decl, Export}
use Rattle.ctype_format.specs.View.{decls_of}
use Rattle.ctype_format.specs.declared.raw.RawDescription.TheVariants as described
use Rattle.tables.specs.PackageNames.{PackageParts, name_parts}
use Rattle.tables.specs.Names.{full_name_in, full_name, world_name}
use Rattle.tables.specs.Package.{interface_names}
use Rattle.tables.specs.Tables.{are_earlier, is_placed, are_grouped}
use Rattle.tables.specs.declared.tables.PackageId.{PackageId}
use Rattle.tables.specs.declared.tables.TypeId.{TypeId}
use Rattle.tables.specs.declared.tables.TypeName.{TypeName}
use Rattle.tables.specs.declared.tables.Definition.{Definition}
use Rattle.tables.specs.declared.tables.Interface.{Interface}
use Rattle.tables.specs.declared.tables.Direction.{Direction}
use Rattle.tables.specs.declared.tables.WorldItem.{WorldItem}
use Rattle.tables.specs.declared.tables.World.{World}
use Rattle.tables.specs.declared.tables.Resolve.{Resolve}
use Rattle.tables.proofs.NamesEarlierTypes.{grouped-at}
use Rattle.tables.proofs.ClosedTypesRowByRow.{split}
use Rattle.package_form.specs.Closed.{own_package, is_world_of, has_own, are_apart, has_each_package}
use Rattle.package_form.specs.Ends.{end_of, rows_of, interfaces_end, world_end, world_rows, is_parted}
use Rattle.package_form.specs.Form.{is_named, has_full_names, is_local, has_ids, are_interfaces, functions_of, IsInPackageForm}
use Rattle.package_form.specs.Ids.{package_id, places_where}
use Rattle.package_form.specs.Reached.{name_at}
use Rattle.package_form.specs.Unused.{are_used}
use Rattle.package_form.proofs.NamesStandForOneRow.{none-named, worlds-parted}
use Rattle.package_form.proofs.FullNamesStandForInterfaces.{package-there, packages-apart, each-package, own-worlds, own-part, some-package}
use Rattle.package_form.proofs.PostfixIsDecided.{postfix-used}
use Rattle.component_reader.specs.Instance.{if_found, nothing_read}
use Rattle.component_reader.specs.World.{no_world, world_read}
use Rattle.component_reader.specs.Component.{ComponentRead, no_component, with_component, interface_text, package_in_name, with_package, last_package, world_named, with_world, component_exported, declarations_read}
use Rattle.component_reader.proofs.FullNamesAreNoLabels.{no-label}
use Rattle.wit_component.specs.Component.{ComponentFront, no_front, first_place, interface_direction, interface_declarations, front_after, interfaces_declared, interfaces_front, surroundings, world_declarations, world_front, worlds_declared, package_declarations}
use Rattle.wit_component.specs.ToComponent.{is_labelled, are_labelled, are_worlds_labelled}
use Rattle.wit_component.specs.Worlds.{items_declared}
use Rattle.wit_component.proofs.ReadAgain.IdsAfterRows.{alike-length}
use Rattle.wit_component.proofs.AlikeRows.{AreAlike, none}
use Rattle.wit_component.proofs.ReadAgain.FullNames.{full-name-cut, full-no-label}
use Rattle.wit_component.proofs.InterfaceRows.FactsOfInterfaces.{IsInterfaceAt, next-earlier, next-used}
use Rattle.wit_component.proofs.ReadAgain.Interfaces.{alike-append, KnowsInterfaces, interface-more, HasReadTo, interface-reread}
use Rattle.wit_component.proofs.UsedNamesStandForOneRow.{named-row}
use Rattle.wit_component.proofs.ReadAgain.Packages.{HasPackages, package-next, packages_after, all-come, own-comes}
use Rattle.wit_component.proofs.ReadAgain.ReadableRows.{is_inside, HasRead}
use Rattle.wit_component.proofs.InterfaceRows.RowsBetweenPlaces.{rest-is}
use Rattle.wit_component.proofs.WorldItemsStandInOrder.{AreWorlds, IsWorldAt, world-first, worlds-later, world-length}
use Rattle.wit_component.proofs.ReadAgain.WorldsOfPackages.{WorldRows, ItemsRead, items-reread}

-- what is known of these interfaces, the first of which is interface k and whose rows begin at start
record AreInterfaces (count last first next : ℕ) (table : List Definition) (ws : List World) (k start : ℕ) (is : List Interface) : Type 0 where
  grouped : are_grouped count first is ≡ true
  each : has_each_package last next is ≡ true
  near : next ≤ first + 1
  form : are_interfaces table k start is ≡ true
  parted : is_parted (length table) start is ws ≡ true
  labels : are_labelled table start is ≡ true
  placed : list_all (is_placed table) is ≡ true
  earlier : are_earlier start (drop start table) ≡ true
  used : are_used table start [] (drop start table) ≡ true

module _ (count last first next : ℕ) (table : List Definition) (ws : List World) (k start : ℕ) (i : Interface) (is : List Interface) (are : AreInterfaces count last first next table ws k start (i ∷ is)) where
  place : ((nat_le first i.«package».0 && nat_lt i.«package».0 count) ≡ true) × (are_grouped count i.«package».0 is ≡ true)
  place = split (nat_le first i.«package».0 && nat_lt i.«package».0 count) (are_grouped count i.«package».0 is) are.grouped

  behind-first : first ≤ i.«package».0
  behind-first = leb-true first i.«package».0 (split (nat_le first i.«package».0) (nat_lt i.«package».0 count) place.0).0

  of-package : i.«package».0 < count
  of-package = ltb-true i.«package».0 count (split (nat_le first i.«package».0) (nat_lt i.«package».0 count) place.0).1

  to-next : i.«package».0 ≤ next
  to-next = leb-true i.«package».0 next (split (nat_le i.«package».0 next) (has_each_package last (i.«package».0 + 1) is) are.each).0

  head : IsInterfaceAt table start k i
  head =
      let form = split (has_ids table start i) _ (split (has_ids table start i && list_all (is_local table k) (rows_of table start i)) _ are.form).0 in
      let parted = split (nat_le start (end_of start i)) _ are.parted in
      let high = split (nat_le (end_of start i) (length table)) _ parted.1 in
      let labels = split (is_label i.name) _ (split (is_label i.name && list_all is_labelled (rows_of table start i)) _ are.labels).0 in
      record {
        low = leb-true start (end_of start i) parted.0;
        high = leb-true (end_of start i) (length table) high.0;
        ids = form.0;
        local = form.1;
        label = labels.0;
        labels = labels.1;
        placed = (split (is_placed table i) _ are.placed).0;
        earlier = are.earlier;
        used = are.used;
      }

  tail : AreInterfaces count last i.«package».0 (i.«package».0 + 1) table ws (k + 1) (end_of start i) is
  tail = record {
    grouped = place.1;
    each = (split (nat_le i.«package».0 next) (has_each_package last (i.«package».0 + 1) is) are.each).1;
    near = omega arith;
    form = (split (has_ids table start i && list_all (is_local table k) (rows_of table start i)) _ are.form).1;
    parted = (split (nat_le (end_of start i) (length table)) _ (split (nat_le start (end_of start i)) _ are.parted).1).1;
    labels = (split (is_label i.name && list_all is_labelled (rows_of table start i)) _ are.labels).1;
    placed = (split (is_placed table i) _ are.placed).1;
    earlier = next-earlier table start k i head;
    used = next-used table start k i head;
  }

-- a world's full name is as an interface's
abbrev as_interface : World → Interface
as_interface w = record { «package» = w.«package»; name = w.name; uses = []; types = []; functions = [] }

same-world : (w : World) (p : PackageId) (n : List ℕ) (is : List WorldItem) → p ≡ w.«package» → n ≡ w.name → is ≡ w.items → record { «package» = p; name = n; items = is } ≡ w
same-world w p n is own a b = λ j. record { «package» = own j; name = a j; items = b j }

module _ (r : Resolve) (names : IsTrue (has_full_names r)) (apart : are_apart r.packages ≡ true) where
  abbrev table : List Definition
  table = r.definitions

  -- these interfaces were read, whatever follows them
  record InterfacesRead (at : ComponentFront) (next k start : ℕ) (is done : List Interface) (s : ComponentRead) : Type 0 where
    state : ComponentRead
    packages : HasPackages r.packages (packages_after next is) state.packages
    has : HasReadTo table (interfaces_front table at start is) (k + length is) (interfaces_end start is) (done ++ is) state
    read : (more : List Decl) → declarations_read (decls_of (interfaces_declared r at start is ++ more)) s ≡ declarations_read (decls_of more) state
    earlier : are_earlier (interfaces_end start is) (drop (interfaces_end start is) table) ≡ true
    used : are_used table (interfaces_end start is) [] (drop (interfaces_end start is) table) ≡ true

  abbrev way : Interface → Direction
  way i = interface_direction (own_package r.packages) i

  interfaces-reread : (last first next : ℕ) (is : List Interface) (at : ComponentFront) (k start : ℕ) (done : List Interface) (s : ComponentRead)
      → AreInterfaces (length r.packages) last first next table r.worlds k start is → HasPackages r.packages next s.packages → HasReadTo table at k start done s
      → InterfacesRead at next k start is done s
  interfaces-reread last first next [] at k start done s are packages has =
      let same : k ≡ k + 0 = omega arith in
      record {
        state = s;
        packages = packages;
        has = subst (λ (n : ℕ). HasReadTo table at n start (done ++ []) s) same (subst (λ (is : List Interface). HasReadTo table at k start is s) (sym (append-nil done)) has);
        read = λ more. refl;
        earlier = are.earlier;
        used = are.used;
      }
  interfaces-reread last first next (i ∷ is) at k start done s are packages has =
      let count = length r.packages in
      let here = head count last first next table r.worlds k start i is are in
      let p = package-there r.packages i.«package».0 (of-package count last first next table r.worlds k start i is are) in
      let cut = full-name-cut r p.0 i p.1 names here.label in
      let low = behind-first count last first next table r.worlds k start i is are in
      let near = are.near in
      let step = package-next r.packages apart i.«package».0 p.0 p.1 next s.packages packages (to-next count last first next table r.worlds k start i is are) (omega (arith, low, near)) in
      let told : with_package s.packages p.0 ≡ with_package s.packages (package_in_name (full_name r i)) = ap (with_package s.packages) (sym cut.0) in
      let own = interface-reread table at k start i here done s has (way i) (full_name r i) (full-no-label r p.0 i p.1 names here.label) (ap last_package (sym told) ∙ step.1) cut.1 in
      let ds = rows_of table start i in
      let rest = interfaces_declared r (front_after table at ds) (end_of start i) is in
      let after : HasPackages r.packages (i.«package».0 + 1) own.0.packages = subst (HasPackages r.packages (i.«package».0 + 1)) (told ∙ sym own.3) step.0 in
      let all = interfaces-reread last i.«package».0 (i.«package».0 + 1) is (front_after table at ds) (k + 1) (end_of start i) (done ++ i ∷ []) own.0
      (tail count last first next table r.worlds k start i is are) after own.1 in
      let counted : k + 1 + length is ≡ k + length (i ∷ is) = omega arith in
      record {
        state = all.state;
        packages = all.packages;
        has = subst (λ (n : ℕ). HasReadTo table (interfaces_front table at start (i ∷ is)) n (interfaces_end start (i ∷ is)) (done ++ i ∷ is) all.state) counted
            (subst (λ (xs : List Interface). HasReadTo table (interfaces_front table at start (i ∷ is)) (k + 1 + length is) (interfaces_end start (i ∷ is)) xs all.state) (append_assoc done (i ∷ []) is) all.has);
        read = λ more.
            ap (λ ds. declarations_read (decls_of ds) s) (append_assoc (interface_declarations table at ds (way i) (full_name r i)) rest more) ∙ own.2 (rest ++ more) ∙ all.read more;
        earlier = all.earlier;
        used = all.used;
      }

  -- ---- worlds

  -- so many interfaces
  abbrev count : ℕ
  count = length r.interfaces

  -- the own package
  abbrev own_place : ℕ
  own_place = own_package r.packages

  module _ (p : PackageParts) (there : slice_get r.packages own_place ≡ Some p) (lows : (t : TypeId) (y : TypeName) → name_at table (Some t) ≡ Some y → y.interface.0 < count)
      (full : (i : ℕ) → i < count → is_label (slice_index_or (interface_names r) i []) ≡ false) where
    -- what was read of the worlds before world w, whose rows end before start
    record HasWorldsTo (at : ComponentFront) (next w start : ℕ) (done : List World) (s : ComponentRead) : Type 0 where
      packages : HasPackages r.packages next s.packages
      near : own_place ≤ next
      rows : AreAlike table 0 (take start table) s.rows
      count_before : length at.indices ≡ start
      row_count : length s.rows ≡ start
      interfaces : s.interfaces ≡ r.interfaces
      worlds : s.worlds ≡ done
      index : length s.worlds ≡ w
      known : KnowsInterfaces s.instances at.instances count
      earlier : are_earlier start (drop start table) ≡ true
      used : are_used table start [] (drop start table) ≡ true

    module _ (x : World) (next w start : ℕ) (at : ComponentFront) (done : List World) (s : ComponentRead) (is : IsWorldAt table count w start x) (mine : x.«package».0 ≡ own_place)
        (labels : (is_label x.name ≡ true) × (list_all is_labelled (world_rows table start x) ≡ true)) (has : HasWorldsTo at next w start done s) where
      abbrev own : List Definition
      own = world_rows table start x

      abbrev later : List Definition
      later = drop (world_end start x) table

      ahead : drop start table ≡ own ++ later
      ahead = rest-is table start (world_end start x) is.low

      world-rows : WorldRows table start count w (λ t y up. lows t y) s.instances (interface_names r) at.instances count has.known full start own later
      world-rows = record {
        here = ahead;
        own = is.own;
        labels = labels.1;
        earlier = subst (λ (ds : List Definition). are_earlier start ds ≡ true) ahead has.earlier;
        used = subst (λ (ds : List Definition). are_used table start [] ds ≡ true) ahead has.used;
        begins = omega arith;
      }

      outside : (t : TypeId) → is_inside table start (length at.indices) t ≡ true → ⊥
      outside t h =
          let a = split (nat_le start t.0) _ h in
          let b = split (nat_lt t.0 (length at.indices)) _ a.1 in
          omega (arith, has.count_before, leb-true start t.0 a.0, ltb-true t.0 (length at.indices) b.0)

      begun-world : HasRead table start count (first_place at) (nothing_read s.rows)
      begun-world = record {
        awaited = refl;
        types = refl;
        rows = has.row_count ∙ sym has.count_before;
        begins = omega (arith, has.count_before);
        known = λ t h. absurd (outside t h);
        names = λ t y low up e. absurd (omega (arith, has.count_before, low, up));
      }

      items : ItemsRead table start count w (λ t y up. lows t y) s.instances (interface_names r) at.instances count has.known full start (first_place at) x.items own later (no_world s.rows)
      items =
          items-reread table start count w (λ t y up. lows t y) s.instances (interface_names r) at.instances count has.known full x.items start own later (first_place at) (no_world s.rows) world-rows
          ((bytes_eq-Decides (places_where is_named start own) (functions_of x)).0 is.items) (world-length table start x is.low is.high) is.placed has.count_before begun-world

      abbrev after : ComponentRead
      after = with_world (world_name r x) (with_component s items.state) items.state

      at_place : slice_get r.packages x.«package».0 ≡ Some p
      at_place = ap (slice_get r.packages) mine ∙ there

      cut : (package_in_name (world_name r x) ≡ p) × (interface_text (world_name r x) ≡ x.name)
      cut = full-name-cut r p (as_interface x) at_place names labels.0

      step : HasPackages r.packages (own_place + 1) (with_package s.packages p) × (last_package (with_package s.packages p) ≡ package_id own_place)
      step = package-next r.packages apart own_place p there next s.packages has.packages has.near (let within = has.packages.within in omega (arith, within))

      told : with_package s.packages p ≡ with_package s.packages (package_in_name (world_name r x))
      told = ap (with_package s.packages) (sym cut.0)

      its-package : last_package (with_package s.packages (package_in_name (world_name r x))) ≡ x.«package»
      its-package = ap last_package (sym told) ∙ step.1 ∙ ap package_id (sym mine)

      ends : length items.state.inside.rows ≡ world_end start x
      ends = ap length items.told ∙ length-append s.rows items.rows
          ∙ omega (arith, has.row_count, alike-length table start own items.rows items.alike, world-length table start x is.low is.high)

      world-read : (more : List Decl) → declarations_read (decls_of (world_declarations r at start x ++ more)) s ≡ declarations_read (decls_of more) after
      world-read more =
          let body = decls_of (items_declared (surroundings r at) (first_place at) start x.items) in
          let export = Export (world_name r x) (described.Component at.types) in
          ap (λ n. if_found (option_map (with_component s) (world_read s.instances n body s.rows)) (declarations_read (decls_of (export ∷ more)))) has.index
          ∙ ap (λ o. if_found (option_map (with_component s) o) (declarations_read (decls_of (export ∷ more)))) items.read
          ∙ ap (λ b. if_found (cond b None (component_exported (world_name r x) (with_component s items.state))) (declarations_read (decls_of more)))
          (full-no-label r p (as_interface x) at_place names labels.0)

      has-after : HasWorldsTo (world_front table at start x) (own_place + 1) (w + 1) (world_end start x) (done ++ x ∷ []) after
      has-after = record {
        packages = subst (HasPackages r.packages (own_place + 1)) told step.0;
        near = omega arith;
        rows = subst (λ (ds : List Definition). AreAlike table 0 ds items.state.inside.rows) front-is
            (subst (λ (es : List Definition). AreAlike table 0 (take start table ++ own) es) (sym items.told)
            (alike-append table 0 (take start table) s.rows own items.rows has.rows (subst (λ (n : ℕ). AreAlike table n own items.rows) from items.alike)));
        count_before = sym items.kept.rows ∙ ends;
        row_count = ends;
        interfaces = has.interfaces;
        worlds = ap (λ (xs : List World). xs ++ world_named (last_package (with_package s.packages (package_in_name (world_name r x)))) (world_name r x) items.state ∷ []) has.worlds
            ∙ ap (λ (v : World). done ++ v ∷ [])
            (same-world x (last_package (with_package s.packages (package_in_name (world_name r x)))) (interface_text (world_name r x)) items.state.items its-package cut.1 items.items);
        index = length-append s.worlds (world_named (last_package (with_package s.packages (package_in_name (world_name r x)))) (world_name r x) items.state ∷ []) ∙ ap (λ (n : ℕ). n + 1) has.index;
        known = λ j low. interface-more s.instances (None ∷ []) _ _ (has.known j low);
        earlier = subst (λ (n : ℕ). are_earlier n later ≡ true) (world-length table start x is.low is.high) items.earlier;
        used = subst (λ (n : ℕ). are_used table n [] later ≡ true) (world-length table start x is.low is.high) items.used;
      }
        where
          from : start ≡ 0 + length (take start table)
          from = omega (arith, alike-length table 0 (take start table) s.rows has.rows, has.row_count)

          front-is : take start table ++ own ≡ take (world_end start x) table
          front-is = sym (take-add start (world_end start x - start) table) ∙ ap (λ n. take n table) (let low = is.low in omega (arith, low))

    -- how many packages have come with these worlds
    packages_behind : ℕ → List World → ℕ
    packages_behind next [] = next
    packages_behind next (x ∷ ws) = packages_behind (own_place + 1) ws

    worlds-reread : (ws : List World) (next w start : ℕ) (at : ComponentFront) (done : List World) (s : ComponentRead) → AreWorlds table count w start ws → list_all (is_world_of own_place) ws ≡ true
        → are_worlds_labelled table start ws ≡ true → HasWorldsTo at next w start done s
        → (s2 : ComponentRead) × (declarations_read (decls_of (worlds_declared r at start ws)) s ≡ Some s2) × (s2.interfaces ≡ r.interfaces) × (s2.worlds ≡ done ++ ws) × AreAlike table 0 table s2.rows
        × HasPackages r.packages (packages_behind next ws) s2.packages
    unfolding packages_behind
    worlds-reread [] next w start at done s are mine labels has =
        let whole : take start table ≡ table = take-whole start table (eqb-true start (length table) are.parted) in
        (s, refl, has.interfaces, has.worlds ∙ sym (append-nil done), subst (λ (ds : List Definition). AreAlike table 0 ds s.rows) whole has.rows, has.packages)
      where
        take-whole : (n : ℕ) (ds : List Definition) → n ≡ length ds → take n ds ≡ ds
        take-whole n ds e = take_all n ds (omega (arith, e))
    worlds-reread (x ∷ ws) next w start at done s are mine labels has =
        let own = world-first table count w start x ws are in
        let g = split (is_world_of own_place x) (list_all (is_world_of own_place) ws) mine in
        let first = eqb-true x.«package».0 own_place g.0 in
        let l = split (is_label x.name && list_all is_labelled (world_rows table start x)) (are_worlds_labelled table (world_end start x) ws) labels in
        let named = split (is_label x.name) (list_all is_labelled (world_rows table start x)) l.0 in
        let all = worlds-reread ws (own_place + 1) (w + 1) (world_end start x) (world_front table at start x) (done ++ x ∷ []) (after x next w start at done s own first named has)
        (worlds-later table count w start x ws are) g.1 l.1 (has-after x next w start at done s own first named has) in (
          all.0,
          world-read x next w start at done s own first named has (worlds_declared r (world_front table at start x) (world_end start x) ws) ∙ all.1,
          all.2,
          all.3 ∙ append_assoc done (x ∷ []) ws,
          all.4,
          all.5,
        )

    -- all of them, where there is an own interface or a world
    all-behind : (next : ℕ) (ws : List World) → 0 < length ws → packages_behind next ws ≡ own_place + 1
    unfolding packages_behind
    all-behind next [] some = absurd (omega (arith, some))
    all-behind next (x ∷ []) some = refl
    all-behind next (x ∷ y ∷ ws) some = all-behind (own_place + 1) (y ∷ ws) (omega arith)

    none-behind : (next : ℕ) → packages_behind next [] ≡ next
    unfolding packages_behind
    none-behind next = refl

module _ (r : Resolve) (form : IsInPackageForm r) (labels : IsTrue (are_labelled r.definitions 0 r.interfaces))
    (world_labels : IsTrue (are_worlds_labelled r.definitions (interfaces_end 0 r.interfaces) r.worlds)) where
  apart : are_apart r.packages ≡ true
  apart = packages-apart r form.closed

  all-interfaces : AreInterfaces (length r.packages) (own_package r.packages) 0 0 r.definitions r.worlds 0 0 r.interfaces
  all-interfaces = record {
    grouped = r.grouped;
    each = each-package r form.closed;
    near = omega arith;
    form = form.interfaces;
    parted = form.parted;
    labels = labels;
    placed = r.placed;
    earlier = r.earlier;
    used = postfix-used r.definitions r.earlier form.postfix;
  }

  begun : HasReadTo r.definitions no_front 0 0 [] no_component
  begun = record {
    rows = none 0;
    count = refl;
    row_count = refl;
    types = refl;
    interfaces = refl;
    index = refl;
    exports = refl;
    names = λ t y up e. absurd (omega (arith, up));
    lows = λ t y up e. absurd (omega (arith, up));
    worlds = refl;
    instances = refl;
    each = refl;
    known = λ j low. absurd (omega (arith, low));
  }

  abbrev end : ℕ
  end = interfaces_end 0 r.interfaces

  interfaces : InterfacesRead r form.names apart no_front 0 0 0 r.interfaces [] no_component
  interfaces =
      interfaces-reread r form.names apart (own_package r.packages) 0 0 r.interfaces no_front 0 0 [] no_component all-interfaces (record { read_are = refl; within = omega arith }) begun

  all-worlds : AreWorlds r.definitions (length r.interfaces) 0 end r.worlds
  all-worlds = record { parted = worlds-parted r.definitions 0 r.interfaces r.worlds form.parted; items = form.worlds; placed = r.worlds_placed }

  -- behind the interfaces there are no names
  lows : (t : TypeId) (y : TypeName) → name_at r.definitions (Some t) ≡ Some y → y.interface.0 < length r.interfaces
  lows t y e = elim (cases_lt t.0 end) [
    | inl l ↦ let low = interfaces.has.lows t y l e in omega (arith, low)
    | inr l ↦ absurd (none-named r.definitions 0 end r.worlds all-worlds.parted all-worlds.items t.0 y l (named-row r.definitions t.0 y e))
  ]

  full : (i : ℕ) → i < length r.interfaces → is_label (slice_index_or (interface_names r) i []) ≡ false
  full i low = by (slice_get r.interfaces i) refl
    where
      by : (o : Option Interface) → slice_get r.interfaces i ≡ o → is_label (slice_index_or (interface_names r) i []) ≡ false
      by None e = absurd (omega (arith, low, past r.interfaces i e))
        where
          past : (is : List Interface) (n : ℕ) → slice_get is n ≡ None → length is ≤ n
          past [] n e = omega arith
          past (x ∷ is) zero e = absurd (cc)
          past (x ∷ is) (suc n) e = omega (arith, past is n e)
      by (Some x) e =
          let at = get-interface r.interfaces i x e in
          let p = package-there r.packages x.«package».0 (grouped-at (length r.packages) 0 r.interfaces i x r.grouped low (at x)) in
          ap is_label (get_or-map (full_name r) r.interfaces i x [] low ∙ ap (full_name r) (at x) ∙ ap (λ (o : Option PackageParts). full_name_in o x.name) p.1) ∙ no-label (name_parts p.0 x.name)
        where
          get-interface : (is : List Interface) (n : ℕ) (x : Interface) → slice_get is n ≡ Some x → (y : Interface) → get_or is n y ≡ x
          get-interface [] n x e y = absurd (cc)
          get-interface (z ∷ is) zero x e y = cc
          get-interface (z ∷ is) (suc n) x e y = get-interface is n x e y

  abbrev own_index : ℕ
  own_index = own_package r.packages

  some : 0 < length r.packages
  some = some-package r form.closed

  mine : (p : PackageParts) × (slice_get r.packages own_index ≡ Some p)
  mine = package-there r.packages own_index (omega (arith, some))

  -- the packages that came with the interfaces
  abbrev come : ℕ
  come = packages_after 0 r.interfaces

  begun-worlds : HasWorldsTo r form.names apart mine.0 mine.1 lows full (interfaces_front r.definitions no_front 0 r.interfaces) come 0 end [] interfaces.state
  begun-worlds = record {
    packages = interfaces.packages;
    near = all-come own_index 0 r.interfaces (each-package r form.closed);
    rows = interfaces.has.rows;
    count_before = interfaces.has.count;
    row_count = interfaces.has.row_count;
    interfaces = interfaces.has.interfaces;
    worlds = interfaces.has.worlds;
    index = ap length interfaces.has.worlds;
    known = λ j low. interfaces.has.known j (omega (arith, low));
    earlier = interfaces.earlier;
    used = interfaces.used;
  }

  -- the own package came with an interface or a world
  all-packages : (s : ComponentRead) → HasPackages r.packages (packages_behind r form.names apart mine.0 mine.1 lows full come r.worlds) s.packages → s.packages ≡ r.packages
  all-packages s has = has.read_are ∙ take_all (packages_behind r form.names apart mine.0 mine.1 lows full come r.worlds) r.packages (omega (arith, some, by r.worlds (own-part r form.closed)))
    where
      by : (ws : List World) → has_own own_index r.interfaces ws ≡ true → own_index + 1 ≤ packages_behind r form.names apart mine.0 mine.1 lows full come ws
      by [] h =
          let none = none-behind r form.names apart mine.0 mine.1 lows full come in
          omega (arith, none, own-comes (length r.packages) own_index 0 0 r.interfaces r.grouped h)
      by (w ∷ ws) h = omega (arith, all-behind r form.names apart mine.0 mine.1 lows full come (w ∷ ws) (omega arith))

  pub reread : (s : ComponentRead) × (declarations_read (decls_of (package_declarations r)) no_component ≡ Some s)
      × (s.interfaces ≡ r.interfaces) × (s.worlds ≡ r.worlds) × AreAlike r.definitions 0 r.definitions s.rows × (s.packages ≡ r.packages)
  reread =
      let worlds = worlds-reread r form.names apart mine.0 mine.1 lows full r.worlds come 0 end (interfaces_front r.definitions no_front 0 r.interfaces) [] interfaces.state all-worlds
      (own-worlds r form.closed) world_labels begun-worlds in (
        worlds.0,
        interfaces.read (worlds_declared r (interfaces_front r.definitions no_front 0 r.interfaces) end r.worlds) ∙ worlds.1,
        worlds.2,
        worlds.3,
        worlds.4,
        all-packages worlds.0 worlds.5,
      )
