-- The rows of the package that is added come after those of the set, in order, and its interfaces have the ids of their rows.
use Rattle.std.proofs.Common.{◌≡◌, ◌<◌, ◌+◌, ◌-◌, ◌⊎◌, inl, inr, ℕ, Bool, true, false, ◌==◌, List, [], ◌∷◌, ◌++◌, length, map, flat_map, drop, slice_get, Option, None, Some, refl, sym, ap, subst, ◌∙◌, arith, eqb-true, eq-eqb, ltb-true, true≢false, ◌&&◌}
use Rattle.std.specs.Prelude.{filter, not}
use Rattle.std.specs.List.{list_all}
use Rattle.std.specs.Option.{option_map}
use Rattle.std.proofs.Math.Seq.{drop-append_seam}
use Rattle.std.proofs.lemmas.Bool.{and_parts}
use Rattle.std.proofs.lemmas.List.{length-append, length-map, map-append}
use Rattle.package_form.specs.Closed.{is_world_of}
use Rattle.package_form.specs.Ends.{interfaces_end}
use Rattle.package_form.specs.Form.{functions_of}
use Rattle.package_form.specs.Ids.{function_id, is_in, is_use, is_owned_by, interface_in, interfaces_from, is_function_in, is_type_in, is_use_in, is_world_function, places_where, type_id}
use Rattle.package_adding.proofs.BeginningsAreImports.{behind-imports, interfaces-labelled}
use Rattle.package_adding.proofs.FileNamesWhatItsTableNames.{StandsBehind, tree-behind}
use Rattle.package_adding.proofs.ImportsFromSets.{are-imports}
use Rattle.package_form.specs.Postfix.{IsPostfix}
use Rattle.tables.proofs.ClosedTypesRowByRow.{both}
use Rattle.package_adding.proofs.FileTableBeginsWithImports.{begins-with}
use Rattle.package_sets.specs.Attached.{IsAttached}
use Rattle.package_sets.specs.Follows.{BeginsWith}
use Rattle.package_sets.specs.Joining.{import_count, import_rows, joined, own_interfaces}
use Rattle.package_sets.specs.SetForm.{IsInSetForm}
use Rattle.package_sets.proofs.FoundImports.BeginsWithImports.{begins-count, begins-imports}
use Rattle.package_sets.proofs.AttachedSets.KeepsTower.{follows}
use Rattle.package_sets.proofs.KeptParts.PropertiesOfKept.{list-at}
use Rattle.package_sets.proofs.GrowingLists.{behind-get, behind-place}
use Rattle.package_sets.proofs.AttachedSets.RowsKeepTheirMeaning.{own-owned}
use Rattle.package_sets.proofs.OwnedRows.RowsAreOwned.{IsOfWorlds, IsOwnedFrom, all-owned, length-rows}
use Rattle.package_sets.proofs.MovedRows.MovedRowsKeepMeaning.{IsOwnedWithin}
use Rattle.package_text.specs.Writable.{IsWritable}
use Rattle.set_rows.specs.Moved.{Renaming, put_function_id, put_id, put_interface, put_row, put_world}
use Rattle.tables.specs.Names.{owner_of}
use Rattle.tables.specs.PackageNames.{PackageParts}
use Rattle.tables.specs.declared.tables.Definition.{Definition}
use Rattle.tables.specs.declared.tables.Definition.TheVariants as row
use Rattle.tables.specs.declared.tables.TypeName.{TypeName}
use Rattle.tables.specs.declared.tables.FunctionId.{FunctionId}
use Rattle.tables.specs.declared.tables.Interface.{Interface}
use Rattle.tables.specs.declared.tables.Owner.{Owner}
use Rattle.tables.specs.declared.tables.Owner.TheVariants as owner
use Rattle.tables.specs.declared.tables.Resolve.{Resolve}
use Rattle.tables.specs.declared.tables.TypeId.{TypeId}
use Rattle.tables.specs.declared.tables.World.{World}
use Rattle.tree_meaning.proofs.tree_forms.ImportsStandInClosedTables.{ends-postfix, front-behind, no-worlds}
use Rattle.tree_meaning.specs.Resolves.{HasWorldsBehind, IsClosedPackageOf, in_package, interfaces_behind, is_behind, is_of_interfaces, is_name_of, is_owned_among}
use Rattle.tree_meaning.proofs.AllDefinitions.{no-place}
use Rattle.tree_meaning.proofs.TableRows.{places-append}
use Rattle.wit_tokens.specs.Syntax.{File}
use Rattle.ctype_bin.specs.declared.component.RawComponent.{RawComponent}
use Rattle.package_text.specs.Imports.{AreImportsOf}
use Rattle.package_text.specs.Tree.{file_of}
use Rattle.package_text.proofs.TreeAndTextStandForPackage.{tree-of-closed}
use Rattle.opening.specs.Sole.{HasOwnBehind}
use Rattle.package_adding.specs.Added.{AddsComponent, AddsTree}
use Rattle.tree_meaning.specs.Declarations.{package_named}
use Rattle.opening.proofs.AddedPackageIsTold.{own-package-is, rows-in-form}
use Rattle.opening.proofs.MovedRowsKeepTheirPlaces.{IsOwnOwner, all-put-as, behind-stays, function-in-same, functions-put, keep-all, none-of, not-world-stays, places-put, type-in-same, use-in-same, worlds-stay}

not-that : (x y : ℕ) → (x ≡ y → ⊥) → (x == y) ≡ false
not-that x y h = by (x == y) refl
  where
    by : (b : Bool) → (x == y) ≡ b → b ≡ false
    by false e = refl
    by true e = absurd (h (eqb-true x y e))

module _ (f : File) (set closed r : Resolve) (id : ℕ) (form : IsInSetForm set) (w : IsWritable closed) (a : IsAttached set closed r id) (below : Resolve) (c : IsClosedPackageOf below f closed)
    (ends : interfaces_end 0 below.interfaces ≡ length below.definitions) (owned : list_all (is_of_interfaces (length below.interfaces)) below.definitions ≡ true) (postfix-below : IsPostfix below.definitions) where
  abbrev b : BeginsWith below closed
  b = begins-with below f closed c

  abbrev to : Renaming
  to = joined set closed a.fits.imports.places

  abbrev own : List Definition
  own = c.rows.0

  -- ---- places

  imported : ℕ
  imported = length (import_rows set closed a.fits.imports.places)

  imported-is : length (import_rows set closed a.fits.imports.places) ≡ length below.definitions
  imported-is =
      omega (
        arith,
        length-rows set (length closed.definitions) 0 (import_count closed) closed.interfaces closed.worlds a.fits.imports.places w.form.parted a.fits.imports.found.count,
        ap (interfaces_end 0) (begins-imports below closed b),
        ends,
      )

  counted : length closed.definitions ≡ length below.definitions + length own
  counted = ap length c.rows.1 ∙ length-append below.definitions own

  row-place : (k : ℕ) → k < length own → to.rows (length below.definitions + k) ≡ length set.definitions + k
  row-place k l =
      ap (λ (n : ℕ). to.rows (n + k)) (sym imported-is)
      ∙ behind-place (import_rows set closed a.fits.imports.places) (length set.definitions) (length closed.definitions) k (omega (arith, l, imported-is, counted))

  own-rows : drop (length (import_rows set closed a.fits.imports.places)) closed.definitions ≡ own
  own-rows = ap (λ (n : ℕ). drop n closed.definitions) imported-is ∙ (ap (drop (length below.definitions)) c.rows.1 ∙ drop-append_seam below.definitions own)

  rows-are : r.definitions ≡ set.definitions ++ map (put_row to) own
  rows-are = a.own_behind.rows ∙ ap (λ (ds : List Definition). set.definitions ++ map (put_row to) ds) own-rows

  -- ---- rows of interfaces, and behind them those of worlds

  cut-at : (ds : List Definition) × (c.behind.front ≡ below.definitions ++ ds) × (own ≡ ds ++ c.behind.back)
  cut-at = front-behind (length below.interfaces) below.definitions own c.behind.front c.behind.back (sym c.rows.1 ∙ c.behind.parts) owned (ends-postfix below.definitions postfix-below) c.behind.all

  behind : HasWorldsBehind (map (put_row to) own)
  behind = record {
    front = map (put_row to) cut-at.0;
    back = map (put_row to) c.behind.back;
    parts = ap (map (put_row to)) cut-at.2 ∙ map-append (put_row to) cut-at.0 c.behind.back;
    none = all-put-as (put_row to) (λ d. not (is_world_function d)) (λ d. not (is_world_function d)) (not-world-stays to) cut-at.0 ∙ right-part below.definitions cut-at.0 (subst (λ (ds : List Definition). list_all (λ d. not (is_world_function d)) ds ≡ true) cut-at.1 c.behind.none);
    all = all-put-as (put_row to) is_behind is_behind (behind-stays to) c.behind.back ∙ c.behind.all;
  }
    where
      right-part : (xs ys : List Definition) → list_all (λ d. not (is_world_function d)) (xs ++ ys) ≡ true → list_all (λ d. not (is_world_function d)) ys ≡ true
      right-part [] ys h = h
      right-part (x ∷ xs) ys h = right-part xs ys (and_parts (not (is_world_function x)) (list_all (λ d. not (is_world_function d)) (xs ++ ys)) h).1

  own-items : places_where is_world_function (length below.definitions) own ≡ flat_map functions_of closed.worlds
  own-items =
      let m = length below.definitions in
      let zero_m : 0 + m ≡ m = omega arith in
      let first : places_where is_world_function 0 closed.definitions ≡ places_where is_world_function (0 + m) own =
      ap (places_where is_world_function 0) c.rows.1
      ∙ (places-append is_world_function 0 below.definitions own ∙ ap (λ (ps : List ℕ). ps ++ places_where is_world_function (0 + m) own) (no-place 0 below.definitions (no-worlds (length below.interfaces) below.definitions owned))) in
      ap (λ (n : ℕ). places_where is_world_function n own) (sym zero_m) ∙ (sym first ∙ c.items)

  items : places_where is_world_function (length set.definitions) (map (put_row to) own) ≡ flat_map functions_of (map (put_world to) closed.worlds)
  items =
      places-put to is_world_function is_world_function (length below.definitions) (length set.definitions) own row-place (worlds-stay to own)
      ∙ (ap (map to.rows) own-items ∙ sym (functions-put to closed.worlds))

  own-worlds : (ws : List World) → list_all (is_world_of (length set.packages)) (map (put_world to) ws) ≡ true
  own-worlds [] = refl
  own-worlds (x ∷ ws) = both (length set.packages == length set.packages) (list_all (is_world_of (length set.packages)) (map (put_world to) ws)) (eq-eqb (length set.packages) (length set.packages) refl) (own-worlds ws)

  -- ---- ids

  abbrev first : ℕ
  first = length below.interfaces

  counted-interfaces : (names : List (List ℕ)) → closed.interfaces ≡ below.interfaces ++ interfaces_behind (length below.packages) first closed.definitions names → length closed.interfaces ≡ first + length names
  counted-interfaces names e = ap length e ∙ omega (arith, length-append below.interfaces (interfaces_behind (length below.packages) first closed.definitions names), length-map (interfaces_from closed.definitions first names) (in_package (length below.packages)), length-from closed.definitions first names)
    where
      length-from : (rows : List Definition) (n : ℕ) (xs : List (List ℕ)) → length (interfaces_from rows n xs) ≡ length xs
      length-from rows n [] = refl
      length-from rows n (x ∷ xs) = omega (arith, length-from rows (n + 1) xs)

  found-count : length a.fits.imports.places ≡ first
  found-count = a.fits.imports.found.count ∙ ap length (begins-imports below closed b)

  interface-place : (k : ℕ) → first + k < length closed.interfaces → to.interfaces (first + k) ≡ length set.interfaces + k
  interface-place k l =
      ap (λ (n : ℕ). to.interfaces (n + k)) (sym found-count)
      ∙ behind-place a.fits.imports.places (length set.interfaces) (length closed.interfaces) k (omega (arith, l, found-count))

  owner-same : (i : ℕ) (o : Option Owner) → IsOwnedFrom (import_count closed) (length closed.interfaces) o ⊎ IsOfWorlds (length closed.worlds) o → IsOwnOwner to first (length set.interfaces) i o
  owner-same i None h = tt
  owner-same i (Some (owner.World x)) h = tt
  owner-same i (Some (owner.Interface j)) (inr h) = absurd h
  owner-same i (Some (owner.Interface j)) (inl h) =
      let n = import_count closed in
      let m : n ≡ first = begins-count below closed b in
      let x = j.0 - first in
      let at : first + x ≡ j.0 = omega (arith, h.0, m) in
      let here : to.interfaces j.0 ≡ length set.interfaces + x = ap to.interfaces (sym at) ∙ interface-place x (omega (arith, at, h.1)) in
      ap (λ (k : ℕ). k == length set.interfaces + i) here ∙ (shifted (length set.interfaces) first x i ∙ ap (λ (k : ℕ). k == first + i) at)
    where
      shifted : (p q x i : ℕ) → (p + x == p + i) ≡ (q + x == q + i)
      shifted p q x i = by (p + x == p + i) (q + x == q + i) refl refl
        where
          by : (e g : Bool) → (p + x == p + i) ≡ e → (q + x == q + i) ≡ g → e ≡ g
          by true true d h = refl
          by false false d h = refl
          by true false d h = absurd (true≢false (sym (eq-eqb (q + x) (q + i) (omega (arith, eqb-true (p + x) (p + i) d))) ∙ h))
          by false true d h = absurd (true≢false (sym (eq-eqb (p + x) (p + i) (omega (arith, eqb-true (q + x) (q + i) h))) ∙ d))

  own-owner : (i : ℕ) (k : ℕ) (d : Definition) → slice_get own k ≡ Some d → IsOwnOwner to first (length set.interfaces) i (owner_of d)
  own-owner i k d e =
      let at : slice_get closed.definitions (length below.definitions + k) ≡ Some d = ap (λ (ds : List Definition). slice_get ds (length below.definitions + k)) c.rows.1 ∙ (behind-get below.definitions own k ∙ e) in
      owner-same i (owner_of d) (own-owned closed (rows-in-form closed w) w.form.closed (length below.definitions + k) d (omega (arith, ends, ap (interfaces_end 0) (begins-imports below closed b))) at)

  -- a property of the rows of one interface
  module _ (P : ℕ → Definition → Bool) (apart : (m i : ℕ) (d : Definition) → IsOwnedWithin m (owner_of d) → P (m + i) d ≡ false)
      (same : (i : ℕ) (d : Definition) → IsOwnOwner to first (length set.interfaces) i (owner_of d) → P (length set.interfaces + i) (put_row to d) ≡ P (first + i) d) where
    ids-there : (i : ℕ) → places_where (P (length set.interfaces + i)) 0 r.definitions ≡ map to.rows (places_where (P (first + i)) 0 closed.definitions)
    ids-there i =
        let n = length set.definitions in
        let m = length below.definitions in
        let zero_n : 0 + n ≡ n = omega arith in
        let zero_m : 0 + m ≡ m = omega arith in
        let there : places_where (P (length set.interfaces + i)) 0 r.definitions ≡ places_where (P (length set.interfaces + i)) n (map (put_row to) own) =
        ap (places_where (P (length set.interfaces + i)) 0) rows-are
        ∙ (places-append (P (length set.interfaces + i)) 0 set.definitions (map (put_row to) own)
        ∙ (ap (λ (ps : List ℕ). ps ++ places_where (P (length set.interfaces + i)) (0 + n) (map (put_row to) own)) (none-of (P (length set.interfaces + i)) 0 set.definitions (λ k d e. apart (length set.interfaces) i d (all-owned set form.rows.stands k d e)))
        ∙ ap (λ (k : ℕ). places_where (P (length set.interfaces + i)) k (map (put_row to) own)) zero_n)) in
        let here : places_where (P (first + i)) 0 closed.definitions ≡ places_where (P (first + i)) m own =
        ap (places_where (P (first + i)) 0) c.rows.1
        ∙ (places-append (P (first + i)) 0 below.definitions own
        ∙ (ap (λ (ps : List ℕ). ps ++ places_where (P (first + i)) (0 + m) own) (none-of (P (first + i)) 0 below.definitions (λ k d e. apart first i d (below-owned k d e)))
        ∙ ap (λ (k : ℕ). places_where (P (first + i)) k own) zero_m)) in
        there ∙ (places-put to (P (first + i)) (P (length set.interfaces + i)) m n own row-place (λ k d e. same i d (own-owner i k d e)) ∙ ap (map to.rows) (sym here))
      where
        below-owned : (k : ℕ) (d : Definition) → slice_get below.definitions k ≡ Some d → IsOwnedWithin first (owner_of d)
        below-owned k d e = owned-within d (list-at (is_of_interfaces first) below.definitions k d owned e)
          where
            owned-within : (d : Definition) → is_of_interfaces first d ≡ true → IsOwnedWithin first (owner_of d)
            owned-within (row.Type d) h = by d.name h
              where
                by : (n : Option TypeName) → is_name_of first n ≡ true → IsOwnedWithin first (option_map (λ x. owner.Interface x.interface) n)
                by None q = tt
                by (Some n) q = ltb-true n.interface.0 first q
            owned-within (row.Function g) h = by g.owner h
              where
                by : (o : Owner) → is_owned_among first o ≡ true → IsOwnedWithin first (Some o)
                by (owner.Interface i) q = ltb-true i.0 first q
                by (owner.World x) q = tt

  use-apart : (m i : ℕ) (d : Definition) → IsOwnedWithin m (owner_of d) → is_use_in (m + i) d ≡ false
  use-apart m i (row.Type d) h = by d.name h
    where
      by : (n : Option TypeName) → IsOwnedWithin m (option_map (λ x. owner.Interface x.interface) n) → (is_in (m + i) n && is_use d.kind) ≡ false
      by None q = refl
      by (Some n) q = ap (λ (x : Bool). x && is_use d.kind) (not-that (n.interface.0) (m + i) (λ e. omega (arith, e, q)))
  use-apart m i (row.Function g) h = refl

  type-apart : (m i : ℕ) (d : Definition) → IsOwnedWithin m (owner_of d) → is_type_in (m + i) d ≡ false
  type-apart m i (row.Type d) h = by d.name h
    where
      by : (n : Option TypeName) → IsOwnedWithin m (option_map (λ x. owner.Interface x.interface) n) → (is_in (m + i) n && not (is_use d.kind)) ≡ false
      by None q = refl
      by (Some n) q = ap (λ (x : Bool). x && not (is_use d.kind)) (not-that (n.interface.0) (m + i) (λ e. omega (arith, e, q)))
  type-apart m i (row.Function g) h = refl

  function-apart : (m i : ℕ) (d : Definition) → IsOwnedWithin m (owner_of d) → is_function_in (m + i) d ≡ false
  function-apart m i (row.Type d) h = refl
  function-apart m i (row.Function g) h = by g.owner h
    where
      by : (o : Owner) → IsOwnedWithin m (Some o) → is_owned_by (m + i) o ≡ false
      by (owner.Interface k) q = not-that k.0 (m + i) (λ e. omega (arith, e, q))
      by (owner.World x) q = refl

  put-types : (ps : List ℕ) → map (put_id to) (filter (λ x. true) (map type_id ps)) ≡ map type_id (map to.rows ps)
  put-types ps = ap (map (put_id to)) (keep-all (map type_id ps)) ∙ by ps
    where
      by : (qs : List ℕ) → map (put_id to) (map type_id qs) ≡ map type_id (map to.rows qs)
      by [] = refl
      by (q ∷ qs) = ap (λ (ts : List TypeId). type_id (to.rows q) ∷ ts) (by qs)

  put-functions : (ps : List ℕ) → map (put_function_id to) (filter (λ x. true) (map function_id ps)) ≡ map function_id (map to.rows ps)
  put-functions ps = ap (map (put_function_id to)) (keep-all (map function_id ps)) ∙ by ps
    where
      by : (qs : List ℕ) → map (put_function_id to) (map function_id qs) ≡ map function_id (map to.rows qs)
      by [] = refl
      by (q ∷ qs) = ap (λ (ts : List FunctionId). function_id (to.rows q) ∷ ts) (by qs)

  interface-there : (i : ℕ) (name : List ℕ) → put_interface to (in_package (length below.packages) (interface_in closed.definitions (first + i) name)) ≡ in_package (length set.packages) (interface_in r.definitions (length set.interfaces + i) name)
  interface-there i name =
      let uses = put-types (places_where (is_use_in (first + i)) 0 closed.definitions) ∙ ap (map type_id) (sym (ids-there is_use_in use-apart (λ j d h. use-in-same to first (length set.interfaces) j d h) i)) in
      let types = put-types (places_where (is_type_in (first + i)) 0 closed.definitions) ∙ ap (map type_id) (sym (ids-there is_type_in type-apart (λ j d h. type-in-same to first (length set.interfaces) j d h) i)) in
      let functions = put-functions (places_where (is_function_in (first + i)) 0 closed.definitions) ∙ ap (map function_id) (sym (ids-there is_function_in function-apart (λ j d h. function-in-same to first (length set.interfaces) j d h) i)) in
      cc

  all-there : (i : ℕ) (names : List (List ℕ)) → map (put_interface to) (map (in_package (length below.packages)) (interfaces_from closed.definitions (first + i) names)) ≡ map (in_package (length set.packages)) (interfaces_from r.definitions (length set.interfaces + i) names)
  all-there i [] = refl
  all-there i (name ∷ names) =
      let p : first + i + 1 ≡ first + (i + 1) = omega arith in
      let q : length set.interfaces + i + 1 ≡ length set.interfaces + (i + 1) = omega arith in
      let rest = ap (λ (k : ℕ). map (put_interface to) (map (in_package (length below.packages)) (interfaces_from closed.definitions k names))) p
      ∙ (all-there (i + 1) names ∙ ap (λ (k : ℕ). map (in_package (length set.packages)) (interfaces_from r.definitions k names)) (sym q)) in
      ap (λ (x : Interface). x ∷ map (put_interface to) (map (in_package (length below.packages)) (interfaces_from closed.definitions (first + i + 1) names))) (interface-there i name)
      ∙ ap (λ (xs : List Interface). in_package (length set.packages) (interface_in r.definitions (length set.interfaces + i) name) ∷ xs) rest

  interfaces-are : r.interfaces ≡ set.interfaces ++ interfaces_behind (length set.packages) (length set.interfaces) r.definitions c.own.0
  interfaces-are =
      let behind = interfaces_behind (length below.packages) first closed.definitions c.own.0 in
      let mine : own_interfaces closed ≡ behind = ap (λ (n : ℕ). drop n closed.interfaces) (begins-count below closed b) ∙ (ap (drop first) c.own.1 ∙ drop-append_seam below.interfaces behind) in
      let p : first ≡ first + 0 = omega arith in
      let q : length set.interfaces + 0 ≡ length set.interfaces = omega arith in
      a.own_behind.interfaces
      ∙ (ap (λ (is : List Interface). set.interfaces ++ map (put_interface to) is) mine
      ∙ ap (λ (is : List Interface). set.interfaces ++ is)
      (ap (λ (k : ℕ). map (put_interface to) (map (in_package (length below.packages)) (interfaces_from closed.definitions k c.own.0))) p
      ∙ (all-there 0 c.own.0 ∙ ap (λ (k : ℕ). map (in_package (length set.packages)) (interfaces_from r.definitions k c.own.0)) q)))

  pub is-behind : HasOwnBehind set a.fits.own r
  is-behind = record {
    packages = a.packages_are;
    rows = map (put_row to) own;
    rows_are = rows-are;
    behind = behind;
    postfix = ((follows set closed r id a).in_form form w.form w.distinct).postfix;
    worlds = map (put_world to) closed.worlds;
    worlds_are = a.own_behind.worlds;
    of_own = own-worlds closed.worlds;
    items = items;
    names = c.own.0;
    interfaces_are = interfaces-are;
  }

-- ---- of a tree, and of a component

pub tree-is-behind : (f : File) (set closed r : Resolve) (id : ℕ) → IsInSetForm set → IsWritable closed → AddsTree f set closed r id → HasOwnBehind set (package_named f) r
tree-is-behind f set closed r id form w t =
    let s : StandsBehind t.tree.imports f closed = tree-behind f set closed t.tree ∣ form ∣₁ ∣ w.form ∣₁ ∣ w.distinct ∣₁ (interfaces-labelled closed w.labels) in
    let postfix = (are-imports set t.tree.from.packages t.tree.from.interfaces t.tree.imports t.tree.from.are ∣ form ∣₁).postfix in
    subst (λ (p : PackageParts). HasOwnBehind set p r) (own-package-is f set closed r id form w t) (is-behind f set closed r id form w t.attached t.tree.imports t.tree.resolved s.ends s.owned postfix)

pub component-is-behind : (raw : RawComponent) (set closed r : Resolve) (id : ℕ) → IsInSetForm set → IsWritable closed → (t : AddsComponent raw set closed r id) → HasOwnBehind set t.attached.fits.own r
component-is-behind raw set closed r id form w t =
    let n = t.behind in
    let of : AreImportsOf closed n.imports = behind-imports n.imports closed n.stands set n.packages n.interfaces n.are form.rows w.form in
    let told = tree-of-closed closed n.imports w of in
    is-behind (file_of closed) set closed r id form w t.attached n.imports told.2 (sym of.ends) told.0.owned told.0.postfix
