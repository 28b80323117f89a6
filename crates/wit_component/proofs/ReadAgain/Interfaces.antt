-- The declarations of one interface, read again.
use Rattle.std.proofs.Common.{◌≡◌, ◌≤◌, ◌<◌, ◌⊎◌, inl, inr, ℕ, zero, suc, ◌+◌, Bool, true, false, cond, nat_lt, List, [], ◌∷◌, ◌++◌, map, take, drop, length, slice_get, slice_index, Option, None, Some, refl, ap, sym, subst, ◌∙◌, arith, append_assoc, length-append}
use Rattle.std.specs.Option.{option_map}
use Rattle.std.proofs.lemmas.Bool.Decides.{nat_tests}
use Rattle.std.proofs.lemmas.List.{length-map, get_or_append_left, get_or_push}
use Rattle.atoms.specs.Label.{is_label}
use Rattle.ctype_format.specs.Raw.{Decl, Instance, Entry}
use Rattle.ctype_format.specs.View.{decls_of}
use Rattle.ctype_format.specs.declared.raw.RawDescription.TheVariants as described
use Rattle.package_form.proofs.AllAndContains.{get-front}
use Rattle.package_form.specs.Ids.{places_where, type_id, function_id}
use Rattle.tables.specs.declared.tables.PackageId.{PackageId}
use Rattle.tables.specs.declared.tables.Direction.{Direction}
use Rattle.tables.specs.declared.tables.Direction.TheVariants as direction
use Rattle.tables.specs.declared.tables.TypeId.{TypeId}
use Rattle.tables.specs.declared.tables.FunctionId.{FunctionId}
use Rattle.tables.specs.declared.tables.InterfaceId.{InterfaceId}
use Rattle.tables.specs.declared.tables.TypeName.{TypeName}
use Rattle.tables.specs.declared.tables.Definition.{Definition}
use Rattle.tables.specs.declared.tables.Interface.{Interface}
use Rattle.component_reader.specs.Instance.{if_found, InstanceRead, nothing_read, instance_read, type_named}
use Rattle.component_reader.specs.Types.{found_in}
use Rattle.component_reader.specs.World.{interface_index}
use Rattle.component_reader.specs.Component.{ComponentRead, with_read_instance, interface_text, package_in_name, with_package, last_package, interface_named, with_interface, instance_named, declaration_read, declarations_read}
use Rattle.wit_component.specs.Component.{aliases_of, ComponentFront, first_place, interface_declarations, front_after}
use Rattle.package_form.specs.Reached.{name_at}
use Rattle.package_form.specs.Ends.{end_of, rows_of}
use Rattle.package_form.proofs.InnerRowsInPostfix.{is_function}
use Rattle.wit_component.specs.Rows.{declarations_of, places_after}
use Rattle.wit_component.specs.Worlds.{directed}
use Rattle.wit_component.proofs.ReadAgain.IdsAfterRows.{is_use_row, is_type_row, rows-rows, rows-uses, rows-types, rows-functions, alike-places, alike-length}
use Rattle.wit_component.proofs.AlikeRows.{AreAlike, none, one_more}
use Rattle.wit_component.proofs.ReadAgain.Aliases.{no_interfaces, with_types, aliases-length, aliases-read}
use Rattle.wit_component.proofs.InterfaceRows.FactsOfInterfaces.{IsInterfaceAt, stand, facts, first, ids-own}
use Rattle.wit_component.proofs.InterfaceRows.RowsStandInOrder.{rows-end, rows-front}
use Rattle.wit_component.proofs.ReadAgain.ReadableRows.{rows_after, AreRowsOf, AreReadable, HasRead}
use Rattle.wit_component.proofs.InterfaceRows.FactsOfRows.{NameEarlier}
use Rattle.wit_component.proofs.ReadAgain.RowsOfInterfaces.{instance-reread}
use Rattle.wit_component.proofs.ReadAgain.UsedNamesAreFound.{IsExported, NamesFound, UsesFound, own-names, uses-found, all_some, found-readable}

pub alike-append : (table : List Definition) (n : ℕ) (ds es fs gs : List Definition) → AreAlike table n ds es → AreAlike table (n + length ds) fs gs → AreAlike table n (ds ++ fs) (es ++ gs)
alike-append table _ _ _ fs gs (none n) more = let e : n + 0 ≡ n = omega arith in subst (λ m. AreAlike table m fs gs) e more
alike-append table _ _ _ fs gs (one_more n d e ds es one all) more =
    let same : n + suc (length ds) ≡ n + 1 + length ds = omega arith in
    one_more n d e (ds ++ fs) (es ++ gs) one (alike-append table (n + 1) ds es fs gs all (subst (λ m. AreAlike table m fs gs) same more))

get-last : {A : Type 0} (xs : List A) (y : A) → slice_get (xs ++ y ∷ []) (length xs) ≡ Some y
get-last [] y = refl
get-last (x ∷ xs) y = get-last xs y

-- each of k interfaces is the one whose instance type has its index
abbrev pub KnowsInterfaces : List (Option InterfaceId) → List ℕ → ℕ → Type 0
KnowsInterfaces instances indices k = (j : ℕ) → j < k → interface_index instances (slice_index indices j) ≡ Some (record { 0 = j })

pub interface-more : (xs ys : List (Option InterfaceId)) (i : ℕ) (t : InterfaceId) → interface_index xs i ≡ Some t → interface_index (xs ++ ys) i ≡ Some t
interface-more [] ys i t h = absurd (cc)
interface-more (x ∷ xs) ys zero t h = h
interface-more (x ∷ xs) ys (suc i) t h = interface-more xs ys i t h

-- what was read of the interfaces before interface k, whose rows end before start
pub record HasReadTo (table : List Definition) (at : ComponentFront) (k start : ℕ) (done : List Interface) (s : ComponentRead) : Type 0 where
  pub rows : AreAlike table 0 (take start table) s.rows
  pub count : length at.indices ≡ start
  pub row_count : length s.rows ≡ start
  pub types : length s.indices ≡ at.types
  pub interfaces : s.interfaces ≡ done
  pub index : length s.interfaces ≡ k
  pub exports : length s.exports ≡ k
  pub names : NamesFound table s.exports start
  pub lows : NameEarlier table start k
  pub worlds : s.worlds ≡ []
  pub instances : length s.instances ≡ at.types
  pub each : length at.instances ≡ k
  pub known : KnowsInterfaces s.instances at.instances k

below-or-from : (i n : ℕ) → (i < n) ⊎ (n ≤ i)
below-or-from i n = by (nat_lt i n) refl
  where
    by : (b : Bool) → nat_lt i n ≡ b → (i < n) ⊎ (n ≤ i)
    by true e = inl (grind (arith, nat_tests))
    by false e = inr (grind (arith, nat_tests))

same-interface : (i : Interface) (p : PackageId) (n : List ℕ) (us ts : List TypeId) (fs : List FunctionId) → p ≡ i.«package» → n ≡ i.name → us ≡ i.uses → ts ≡ i.types → fs ≡ i.functions
    → record { «package» = p; name = n; uses = us; types = ts; functions = fs } ≡ i
same-interface i p n us ts fs own a b c d = λ j. record { «package» = own j; name = a j; uses = b j; types = c j; functions = d j }

module _ (table : List Definition) (at : ComponentFront) (k start : ℕ) (i : Interface) (is : IsInterfaceAt table start k i) where
  -- rows like the interface's give it again
  interface-again : (es rows : List Definition) (p : PackageId) (text : List ℕ) → p ≡ i.«package» → length rows ≡ start → AreRowsOf k es → AreAlike table start (rows_of table start i) es → interface_text text ≡ i.name
      → interface_named p text (rows_after k es (nothing_read rows)) ≡ i
  interface-again es rows p text of-package len own alike name =
      let ids = ids-own table start k i is in
      same-interface i p (interface_text text) (rows_after k es (nothing_read rows)).uses (rows_after k es (nothing_read rows)).types (rows_after k es (nothing_read rows)).functions of-package name
      (rows-uses k es own (nothing_read rows)
      ∙ ap (λ n. map type_id (places_where is_use_row n es)) len ∙ ap (map type_id) (sym (alike-places table is_use_row (λ x t u. refl) start (rows_of table start i) es alike)) ∙ ids.uses)
      (rows-types k es own (nothing_read rows)
      ∙ ap (λ n. map type_id (places_where is_type_row n es)) len ∙ ap (map type_id) (sym (alike-places table is_type_row (λ x t u. refl) start (rows_of table start i) es alike)) ∙ ids.types)
      (rows-functions k es own (nothing_read rows)
      ∙ ap (λ n. map function_id (places_where is_function n es)) len ∙ ap (map function_id) (sym (alike-places table is_function (λ x t u. refl) start (rows_of table start i) es alike)) ∙ ids.functions)

  module _ (done : List Interface) (s : ComponentRead) (has : HasReadTo table at k start done s) where
    own : (t : TypeId) (y : TypeName) → start ≤ t.0 → t.0 < end_of start i → name_at table (Some t) ≡ Some y → y.interface.0 ≡ k
    own t y low up e = own-names table start k start (rows_of table start i) (stand table start k i is) is.local t y low (omega (arith, up, rows-end table start i is.low is.high)) e

    found : (us : List TypeId) × UsesFound table s.exports start k us (rows_of table start i)
    found = uses-found table start k s.exports has.names (end_of start i) own start [] (rows_of table start i) (drop (end_of start i) table)
        (rows-end table start i is.low is.high) (first table start k i is) (facts table start k i is)

    reread : (es : List Definition) × AreAlike table start (rows_of table start i) es × AreRowsOf k es
        × (instance_read (s.indices ++ all_some found.0) k (decls_of (declarations_of (first_place at) (rows_of table start i))) s.rows ≡ Some (rows_after k es (nothing_read s.rows)))
        × HasRead table start k (places_after (first_place at) (rows_of table start i)) (rows_after k es (nothing_read s.rows))
    reread = instance-reread table (s.indices ++ all_some found.0) start k at.indices at.types (rows_of table start i) s.rows
        (subst (λ m. AreReadable table (s.indices ++ all_some found.0) start k start m (rows_of table start i)) has.types
        (found-readable table s.exports start k (s.indices ++ all_some found.0) found.0 (rows_of table start i) found.1 s.indices refl start [] (drop (end_of start i) table)
        has.lows (stand table start k i is) (facts table start k i is)))
        has.count has.row_count

    abbrev inside : InstanceRead
    inside = rows_after k reread.0 (nothing_read s.rows)

    -- the state behind the interface
    abbrev after : List ℕ → ComponentRead
    after text = with_interface text (with_read_instance (with_types s found.0) inside) inside

    rows-told : inside.rows ≡ s.rows ++ reread.0
    rows-told = rows-rows k reread.0 reread.2 (nothing_read s.rows)

    ends : length inside.rows ≡ end_of start i
    ends = ap length rows-told
        ∙ omega (arith, length-append s.rows reread.0, has.row_count, alike-length table start (rows_of table start i) reread.0 reread.1, rows-end table start i is.low is.high)

    kept : HasRead table start k (places_after (first_place at) (rows_of table start i)) inside
    kept = reread.4

    names-after : NamesFound table (s.exports ++ inside.names ∷ []) (end_of start i)
    names-after t y up e = by (below-or-from t.0 start)
      where
        by : (t.0 < start) ⊎ (start ≤ t.0) → IsExported table (s.exports ++ inside.names ∷ []) (end_of start i) y
        by (inl l) =
            let q = has.names t y l e in
            let early = has.lows t y l e in
            record {
              id = q.id;
              found = ap (λ o. if_found o (λ es. type_named es y.name)) (get-front s.exports (inside.names ∷ []) y.interface.0 (omega (arith, early, has.exports))) ∙ q.found;
              named = q.named;
              below = omega (arith, q.below, is.low);
            }
        by (inr low) =
            let q = kept.names t y low (omega (arith, up, ends, kept.rows)) e in
            record {
              id = q.id;
              found = ap (λ n. if_found (slice_get (s.exports ++ inside.names ∷ []) n) (λ es. type_named es y.name)) (q.here ∙ sym has.exports)
                  ∙ ap (λ o. if_found o (λ es. type_named es y.name)) (get-last s.exports inside.names) ∙ q.found;
              named = q.named;
              below = omega (arith, q.upper, ends, kept.rows);
            }

    lows-after : NameEarlier table (end_of start i) (k + 1)
    lows-after t y up e = by (below-or-from t.0 start)
      where
        by : (t.0 < start) ⊎ (start ≤ t.0) → y.interface.0 < k + 1
        by (inl l) = let early = has.lows t y l e in omega (arith, early)
        by (inr low) = let same = own t y low up e in omega (arith, same)

    -- its package
    abbrev of_package : List ℕ → PackageId
    of_package text = last_package (with_package s.packages (package_in_name text))

    has-after : (text : List ℕ) → of_package text ≡ i.«package» → interface_text text ≡ i.name
        → HasReadTo table (front_after table at (rows_of table start i)) (k + 1) (end_of start i) (done ++ i ∷ []) (after text)
    has-after text own_package name = record {
      rows = subst (λ ds. AreAlike table 0 ds inside.rows) (rows-front table start i is.low is.high)
          (subst (λ es. AreAlike table 0 (take start table ++ rows_of table start i) es) (sym rows-told)
          (alike-append table 0 (take start table) s.rows (rows_of table start i) reread.0 has.rows
          (subst (λ n. AreAlike table n (rows_of table start i) reread.0) front reread.1)));
      count = sym kept.rows ∙ ends;
      row_count = ends;
      types = length-append (s.indices ++ all_some found.0) (None ∷ [])
          ∙ omega (arith, length-append s.indices (all_some found.0), length-map found.0 (λ (u : TypeId). Some u), has.types, aliases-length table start k s.exports found.0 (rows_of table start i) found.1);
      interfaces = ap (λ xs. s.interfaces ++ xs ∷ []) (interface-again reread.0 s.rows (of_package text) text own_package has.row_count reread.2 reread.1 name) ∙ ap (λ xs. xs ++ i ∷ []) has.interfaces;
      index = length-append s.interfaces (interface_named (of_package text) text inside ∷ []) ∙ ap (λ n. n + 1) has.index;
      exports = length-append s.exports (inside.names ∷ []) ∙ ap (λ n. n + 1) has.exports;
      names = names-after;
      lows = lows-after;
      worlds = has.worlds;
      instances = length-append (s.instances ++ no_interfaces found.0) (Some (record { 0 = length s.interfaces }) ∷ []) ∙ omega (arith, index);
      each = length-append at.instances (last ∷ []) ∙ omega (arith, has.each);
      known = λ j low. by j (below-or-from j k) low;
    }
      where
        -- the type index of its instance type
        last : ℕ
        last = at.types + length (aliases_of table (rows_of table start i))

        index : length (s.instances ++ no_interfaces found.0) ≡ last
        index =
            length-append s.instances (no_interfaces found.0)
            ∙ omega (arith, length-map {B = Option InterfaceId} found.0 (λ (u : TypeId). None), has.instances, aliases-length table start k s.exports found.0 (rows_of table start i) found.1)

        by : (j : ℕ) → (j < k) ⊎ (k ≤ j) → j < k + 1 → interface_index ((s.instances ++ no_interfaces found.0) ++ Some (record { 0 = length s.interfaces }) ∷ []) (slice_index (at.instances ++ last ∷ []) j) ≡ Some (record { 0 = j })
        by j (inl l) low =
            ap (interface_index ((s.instances ++ no_interfaces found.0) ++ Some (record { 0 = length s.interfaces }) ∷ [])) (get_or_append_left at.instances (last ∷ []) 0 j (omega (arith, l, has.each)))
            ∙ interface-more (s.instances ++ no_interfaces found.0) (Some (record { 0 = length s.interfaces }) ∷ []) _ _ (interface-more s.instances (no_interfaces found.0) _ _ (has.known j l))
        by j (inr l) low =
            let here : j ≡ k = omega (arith, l, low) in
            ap (interface_index ((s.instances ++ no_interfaces found.0) ++ Some (record { 0 = length s.interfaces }) ∷ [])) (get_or_push at.instances last 0 j (has.each ∙ sym here) ∙ sym index)
            ∙ ap found_in (get-last (s.instances ++ no_interfaces found.0) (Some (record { 0 = length s.interfaces })))
            ∙ ap (λ (n : ℕ). Some (record { 0 = n })) (has.index ∙ sym here)

        front : start ≡ 0 + length (take start table)
        front = omega (arith, alike-length table 0 (take start table) s.rows has.rows, has.row_count)

    -- what is imported is read as what is exported
    directed-read : (way : Direction) (text : List ℕ) (n : ℕ) (t : ComponentRead) → is_label text ≡ false → declaration_read (directed way text (described.Instance n)) t ≡ instance_named text t
    directed-read direction.Import text n t full = ap (λ b. cond b None (instance_named text t)) full
    directed-read direction.Export text n t full = ap (λ b. cond b None (instance_named text t)) full

    interface-read : (way : Direction) (text : List ℕ) → is_label text ≡ false → (more : List Decl)
        → declarations_read (decls_of (interface_declarations table at (rows_of table start i) way text ++ more)) s ≡ declarations_read (decls_of more) (after text)
    interface-read way text full more =
        let ds = rows_of table start i in
        let body = decls_of (declarations_of (first_place at) ds) in
        let export = directed way text (described.Instance (at.types + length (aliases_of table ds))) in
        ap (λ es. declarations_read (decls_of es) s) (append_assoc (aliases_of table ds) (Entry (Instance body) ∷ export ∷ []) more)
        ∙ aliases-read table start k s.exports found.0 ds found.1 s refl (Entry (Instance body) ∷ export ∷ more)
        ∙ ap (λ n. if_found (option_map (with_read_instance (with_types s found.0)) (instance_read (s.indices ++ all_some found.0) n body s.rows)) (declarations_read (decls_of (export ∷ more)))) has.index
        ∙ ap (λ o. if_found (option_map (with_read_instance (with_types s found.0)) o) (declarations_read (decls_of (export ∷ more)))) reread.3
        ∙ ap (λ o. if_found o (declarations_read (decls_of more))) (directed-read way text (at.types + length (aliases_of table ds)) (with_read_instance (with_types s found.0) inside) full)

    pub interface-reread : (way : Direction) (text : List ℕ) → is_label text ≡ false → of_package text ≡ i.«package» → interface_text text ≡ i.name
        → (s2 : ComponentRead) × HasReadTo table (front_after table at (rows_of table start i)) (k + 1) (end_of start i) (done ++ i ∷ []) s2
        × ((more : List Decl) → declarations_read (decls_of (interface_declarations table at (rows_of table start i) way text ++ more)) s ≡ declarations_read (decls_of more) s2)
        × (s2.packages ≡ with_package s.packages (package_in_name text))
    interface-reread way text full own_package name = (after text, has-after text own_package name, interface-read way text full, refl)
