-- A table whose rows, interfaces, worlds and packages all stand in another where they stood has the same there.
use Rattle.std.proofs.Common.{◌≡◌, ◌<◌, ℕ, suc, ◌+◌, true, List, [], ◌∷◌, ◌++◌, length, map, slice_get, Option, None, Some, refl, ap, sym, ◌∙◌}
use Rattle.std.specs.Prelude.{Contains}
use Rattle.std.proofs.lemmas.Bool.{ltb-true}
use Rattle.std.proofs.lemmas.Option.{slice_get_within, get_or_from_slice_get}
use Rattle.tables.specs.Tables.{definition_all, is_type, is_placed, is_placed_item, is_function_of, function_of}
use Rattle.tables.specs.declared.tables.TypeId.{TypeId}
use Rattle.tables.specs.declared.tables.FunctionId.{FunctionId}
use Rattle.tables.specs.declared.tables.ValType.TheVariants as val
use Rattle.tables.specs.declared.tables.Definition.{Definition}
use Rattle.tables.specs.declared.tables.Interface.{Interface}
use Rattle.tables.specs.declared.tables.World.{World}
use Rattle.tables.specs.declared.tables.WorldItem.{WorldItem}
use Rattle.tables.specs.declared.tables.WorldItemKind.{WorldItemKind}
use Rattle.tables.specs.declared.tables.WorldItemKind.TheVariants as item
use Rattle.tables.specs.declared.tables.Resolve.{Resolve}
use Rattle.tables.proofs.NamesEarlierTypes.{grouped-at}
use Rattle.tables.proofs.HasStandardTypes.{type-below}
use Rattle.package_form.specs.Form.{ids_of}
use Rattle.package_form.proofs.AllAndContains.{contains-map}
use Rattle.std.proofs.lemmas.List.Elements.{Contains-append_left, Contains-append_right}
use Rattle.set_rows.specs.Moved.{Renaming, put_id, put_function_id, put_interface, put_item, put_world, put_row, put_types, put_functions, has_type, has_function}
use Rattle.tables.specs.Names.{owner_of}
use Rattle.package_sets.proofs.MovedRows.IdsOfInterfaces.{id-there}
use Rattle.package_sets.proofs.KeptParts.PropertiesOfKept.{list-at, placed-at, worlds-grouped-at}
use Rattle.package_sets.proofs.GrowingLists.{get-contains}
use Rattle.package_sets.proofs.MovedRows.MovedRowsKeepMeaning.{in_place, row-stays}
use Rattle.package_sets.proofs.MovedRows.MovedBackIsSame.{IsBack, row-back}
use Rattle.package_sets.proofs.KeptParts.KeptIsPackageByPackage.{filter-all, all-from}

map-here : {A : Type 0} (f : A → A) (xs : List A) → ((k : ℕ) (x : A) → slice_get xs k ≡ Some x → f x ≡ x) → map f xs ≡ xs
map-here f [] h = refl
map-here f (x ∷ xs) h = let e = h 0 x refl in let r = map-here f xs (λ k y g. h (suc k) y g) in cc

function-there : (ds : List Definition) (w n : ℕ) → is_function_of w (function_of (slice_get ds n)) ≡ true → n < length ds
function-there ds w n h = by (slice_get ds n) refl h
  where
    by : (o : Option Definition) → slice_get ds n ≡ o → is_function_of w (function_of o) ≡ true → n < length ds
    by None e g = absurd (cc)
    by (Some d) e g = slice_get_within ds n d e

module _ (c : Resolve) (to : Renaming)
    (rows : (t : ℕ) → t < length c.definitions → to.rows t ≡ t) (keeps : (t : ℕ) → t < length c.definitions → to.keeps t ≡ true)
    (interfaces : (t : ℕ) → t < length c.interfaces → to.interfaces t ≡ t) (packages : (t : ℕ) → t < length c.packages → to.packages t ≡ t)
    (owned : (k : ℕ) (d : Definition) → slice_get c.definitions k ≡ Some d → IsBack to in_place (owner_of d)) where
  row-here : (k : ℕ) (d : Definition) → slice_get c.definitions k ≡ Some d → put_row to d ≡ d
  row-here k d h =
      sym (row-stays (put_row to d))
      ∙ row-back to in_place (is_type c.definitions) (λ t g. rows t (ltb-true t (length c.definitions) (type-below c.definitions (val.Id (record { 0 = t })) g))) d
      (owned k d h) (list-at (definition_all (is_type c.definitions)) c.definitions k d c.typed h)

  -- ---- interfaces

  types-here : (ts : List TypeId) → ((t : TypeId) → Contains ts t → t.0 < length c.definitions) → put_types to ts ≡ ts
  types-here ts h = ap (map (put_id to)) (filter-all (has_type to) ts (all-from (has_type to) ts (λ t g. keeps t.0 (h t g))))
      ∙ map-here (put_id to) ts (λ k t g. ap (λ (n : ℕ). record { 0 = n }) (rows t.0 (h t (get-contains ts k t g))))

  functions-here : (fs : List FunctionId) → ((f : FunctionId) → Contains fs f → f.0 < length c.definitions) → put_functions to fs ≡ fs
  functions-here fs h = ap (map (put_function_id to)) (filter-all (has_function to) fs (all-from (has_function to) fs (λ f g. keeps f.0 (h f g))))
      ∙ map-here (put_function_id to) fs (λ k f g. ap (λ (n : ℕ). record { 0 = n }) (rows f.0 (h f (get-contains fs k f g))))

  interface-here : (k : ℕ) (i : Interface) → slice_get c.interfaces k ≡ Some i → put_interface to i ≡ i
  interface-here k i h =
      let placed : is_placed c.definitions i ≡ true = list-at (is_placed c.definitions) c.interfaces k i c.placed h in
      let there : (n : ℕ) → Contains (ids_of i) n → n < length c.definitions = λ n g. let d = id-there c.definitions i placed n g in slice_get_within c.definitions n d.0 d.1 in
      let us = map (λ (t : TypeId). t.0) i.uses in
      let ts = map (λ (t : TypeId). t.0) i.types in
      let fs = map (λ (f : FunctionId). f.0) i.functions in
      let within : i.«package».0 < length c.packages = grouped-at (length c.packages) 0 c.interfaces k i c.grouped (slice_get_within c.interfaces k i h) (get_or_from_slice_get c.interfaces k i i h) in
      let «package» : to.packages i.«package».0 ≡ i.«package».0 = packages i.«package».0 within in
      let uses : put_types to i.uses ≡ i.uses = types-here i.uses (λ t g. there t.0 (Contains-append_left us (ts ++ fs) t.0 (contains-map (λ (x : TypeId). x.0) i.uses t g))) in
      let types : put_types to i.types ≡ i.types =
      types-here i.types (λ t g. there t.0 (Contains-append_right us (ts ++ fs) t.0 (Contains-append_left ts fs t.0 (contains-map (λ (x : TypeId). x.0) i.types t g)))) in
      let functions : put_functions to i.functions ≡ i.functions =
      functions-here i.functions (λ f g. there f.0 (Contains-append_right us (ts ++ fs) f.0 (Contains-append_right ts fs f.0 (contains-map (λ (x : FunctionId). x.0) i.functions f g)))) in
      λ j. record { «package» = record { 0 = «package» j }; name = i.name; uses = uses j; types = types j; functions = functions j }

  -- ---- worlds

  item-here : (w : ℕ) (i : WorldItem) → is_placed_item c.definitions (length c.interfaces) w i.kind ≡ true → put_item to i ≡ i
  item-here w i h = by i.kind h
    where
      by : (k : WorldItemKind) → is_placed_item c.definitions (length c.interfaces) w k ≡ true → put_item to (record { direction = i.direction; kind = k }) ≡ record { direction = i.direction; kind = k }
      by (item.Interface x) g = ap (λ (n : ℕ). record { direction = i.direction; kind = item.Interface (record { 0 = n }) }) (interfaces x.0 (ltb-true x.0 (length c.interfaces) g))
      by (item.Function f) g = ap (λ (n : ℕ). record { direction = i.direction; kind = item.Function (record { 0 = n }) }) (rows f.0 (function-there c.definitions w f.0 g))

  world-here : (k : ℕ) (w : World) → slice_get c.worlds k ≡ Some w → put_world to w ≡ w
  world-here k w h =
      let placed = placed-at c.definitions (length c.interfaces) 0 c.worlds k w c.worlds_placed h in
      let «package» : to.packages w.«package».0 ≡ w.«package».0 = packages w.«package».0 (worlds-grouped-at (length c.packages) 0 c.worlds k w c.worlds_grouped h) in
      let items : map (put_item to) w.items ≡ w.items = map-here (put_item to) w.items (λ n i g. item-here (0 + k) i (list-at (λ i. is_placed_item c.definitions (length c.interfaces) (0 + k) i.kind) w.items n i placed g)) in
      λ j. record { «package» = record { 0 = «package» j }; name = w.name; items = items j }

  pub rows-here : map (put_row to) c.definitions ≡ c.definitions
  rows-here = map-here (put_row to) c.definitions row-here

  pub interfaces-here : map (put_interface to) c.interfaces ≡ c.interfaces
  interfaces-here = map-here (put_interface to) c.interfaces interface-here

  pub worlds-here : map (put_world to) c.worlds ≡ c.worlds
  worlds-here = map-here (put_world to) c.worlds world-here
