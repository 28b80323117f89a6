-- Rows that are put behind a set keep their places in the own part: those with a property stand where they stood, as far behind its first row.
use Rattle.std.proofs.Common.{◌≡◌, ◌<◌, ◌+◌, ℕ, suc, Bool, true, false, not, ◌&&◌, ◌==◌, if◌then◌else◌, List, [], ◌∷◌, ◌++◌, length, map, flat_map, slice_get, Option, None, Some, refl, sym, ap, ◌∙◌, arith}
use Rattle.std.specs.Prelude.{filter, is_some}
use Rattle.std.specs.List.{list_all}
use Rattle.std.specs.Option.{option_map}
use Rattle.std.proofs.lemmas.List.{map-append}
use Rattle.package_form.specs.Form.{functions_in_item, functions_of, item_function}
use Rattle.package_form.specs.Ids.{is_function_in, is_in, is_of_worlds, is_owned_by, is_type_in, is_use, is_use_in, is_world_function, places_where}
use Rattle.set_rows.specs.Moved.{Renaming, put_item, put_kind, put_row, put_world}
use Rattle.tables.specs.Names.{owner_of}
use Rattle.tables.specs.declared.tables.Definition.{Definition}
use Rattle.tables.specs.declared.tables.Definition.TheVariants as row
use Rattle.tables.specs.declared.tables.Owner.{Owner}
use Rattle.tables.specs.declared.tables.Owner.TheVariants as owner
use Rattle.tables.specs.declared.tables.TypeDefKind.{TypeDefKind}
use Rattle.tables.specs.declared.tables.TypeDefKind.TheVariants as kind
use Rattle.tables.specs.declared.tables.TypeName.{TypeName}
use Rattle.tables.specs.declared.tables.World.{World}
use Rattle.tables.specs.declared.tables.WorldItem.{WorldItem}
use Rattle.tables.specs.declared.tables.WorldItemKind.TheVariants as item
use Rattle.tree_meaning.specs.Resolves.{is_behind}

pub all-put-as : {A B : Type 0} (put : A → B) (f : A → Bool) (g : B → Bool) → ((x : A) → g (put x) ≡ f x) → (xs : List A) → list_all g (map put xs) ≡ list_all f xs
all-put-as put f g h [] = refl
all-put-as put f g h (x ∷ xs) = let e = h x in let r = all-put-as put f g h xs in cc

pub keep-all : {A : Type 0} (xs : List A) → filter (λ x. true) xs ≡ xs
keep-all [] = refl
keep-all (x ∷ xs) = ap (λ (ys : List _). x ∷ ys) (keep-all xs)

pub none-of : (P : Definition → Bool) (n : ℕ) (ds : List Definition) → ((k : ℕ) (d : Definition) → slice_get ds k ≡ Some d → P d ≡ false) → places_where P n ds ≡ []
none-of P n [] h = refl
none-of P n (d ∷ ds) h = ap (λ (b : Bool). if b then n ∷ places_where P (n + 1) ds else places_where P (n + 1) ds) (h 0 d refl) ∙ none-of P (n + 1) ds (λ k c e. h (suc k) c e)

module _ (to : Renaming) where
  use-stays : (k : TypeDefKind) → is_use (put_kind to k) ≡ is_use k
  use-stays (kind.Use t) = refl
  use-stays (kind.Alias v) = refl
  use-stays (kind.List v) = refl
  use-stays (kind.Option v) = refl
  use-stays (kind.Result ok error) = refl
  use-stays (kind.Tuple vs) = refl
  use-stays (kind.Record fs) = refl
  use-stays (kind.Variant cs) = refl
  use-stays (kind.Enum names) = refl
  use-stays (kind.Flags names) = refl

  world-stays : (d : Definition) → is_world_function (put_row to d) ≡ is_world_function d
  world-stays (row.Type d) = refl
  world-stays (row.Function f) = by f.owner
    where
      by : (o : Owner) → is_world_function (put_row to (row.Function (record f { owner = o }))) ≡ is_of_worlds o
      by (owner.Interface i) = refl
      by (owner.World w) = refl

  pub not-world-stays : (d : Definition) → not (is_world_function (put_row to d)) ≡ not (is_world_function d)
  not-world-stays d = ap not (world-stays d)

  pub behind-stays : (d : Definition) → is_behind (put_row to d) ≡ is_behind d
  behind-stays (row.Type d) = by d.name
    where
      by : (n : Option TypeName) → is_behind (put_row to (row.Type (record { name = n; kind = d.kind }))) ≡ not (is_some n)
      by None = refl
      by (Some n) = refl
  behind-stays (row.Function f) = world-stays (row.Function f)

  pub worlds-stay : (ds : List Definition) (k : ℕ) (d : Definition) → slice_get ds k ≡ Some d → is_world_function (put_row to d) ≡ is_world_function d
  worlds-stay ds k d e = world-stays d

  -- where rows with a property stand
  pub places-put : (P Q : Definition → Bool) (n m : ℕ) (ds : List Definition) → ((k : ℕ) → k < length ds → to.rows (n + k) ≡ m + k) → ((k : ℕ) (d : Definition) → slice_get ds k ≡ Some d → Q (put_row to d) ≡ P d)
      → places_where Q m (map (put_row to) ds) ≡ map to.rows (places_where P n ds)
  places-put P Q n m [] h p = refl
  places-put P Q n m (d ∷ ds) h p =
      let zero_n : n + 0 ≡ n = omega arith in
      let zero_m : m + 0 ≡ m = omega arith in
      let here : to.rows n ≡ m = ap to.rows (sym zero_n) ∙ (h 0 (omega arith) ∙ zero_m) in
      let rest = places-put P Q (n + 1) (m + 1) ds (λ k l. ap to.rows (next n k) ∙ (h (suc k) (omega (arith, l)) ∙ sym (next m k))) (λ k c e. p (suc k) c e) in
      ap (λ (b : Bool). if b then m ∷ places_where Q (m + 1) (map (put_row to) ds) else places_where Q (m + 1) (map (put_row to) ds)) (p 0 d refl)
      ∙ (ap (λ (ps : List ℕ). if P d then m ∷ ps else ps) rest ∙ by (P d) here)
    where
      next : (n k : ℕ) → n + 1 + k ≡ n + suc k
      next n k = omega arith

      by : (b : Bool) → to.rows n ≡ m → (if b then m ∷ map to.rows (places_where P (n + 1) ds) else map to.rows (places_where P (n + 1) ds)) ≡ map to.rows (if b then n ∷ places_where P (n + 1) ds else places_where P (n + 1) ds)
      by true e = ap (λ (k : ℕ). k ∷ map to.rows (places_where P (n + 1) ds)) (sym e)
      by false e = refl

  items-put : (is : List WorldItem) → flat_map functions_in_item (map (put_item to) is) ≡ map to.rows (flat_map functions_in_item is)
  items-put [] = refl
  items-put (i ∷ is) = ap (λ (ps : List ℕ). functions_in_item (put_item to i) ++ ps) (items-put is) ∙ (ap (λ (ps : List ℕ). ps ++ map to.rows (flat_map functions_in_item is)) (one i.kind) ∙ sym (map-append to.rows (functions_in_item i) (flat_map functions_in_item is)))
    where
      one : (k : _) → item_function (put_item to (record { direction = i.direction; kind = k })).kind ≡ map to.rows (item_function k)
      one (item.Interface j) = refl
      one (item.Function f) = refl

  pub functions-put : (ws : List World) → flat_map functions_of (map (put_world to) ws) ≡ map to.rows (flat_map functions_of ws)
  functions-put [] = refl
  functions-put (w ∷ ws) =
      ap (λ (ps : List ℕ). functions_of (put_world to w) ++ ps) (functions-put ws)
      ∙ (ap (λ (ps : List ℕ). ps ++ map to.rows (flat_map functions_of ws)) (items-put w.items) ∙ sym (map-append to.rows (functions_of w) (flat_map functions_of ws)))

  -- ---- rows of an interface: the first of the own ones stands at `first` there and at `behind` here

  module _ (first behind : ℕ) (i : ℕ) where
    -- the owner is another interface just where it is another there
    abbrev pub IsOwnOwner : Option Owner → Type 0
    IsOwnOwner None = Unit {0}
    IsOwnOwner (Some (owner.World w)) = Unit {0}
    IsOwnOwner (Some (owner.Interface j)) = (to.interfaces j.0 == behind + i) ≡ (j.0 == first + i)

    in-same : (n : Option TypeName) → IsOwnOwner (option_map (λ x. owner.Interface x.interface) n) → is_in (behind + i) (option_map (λ x. record { interface = record { 0 = to.interfaces x.interface.0 }; name = x.name }) n) ≡ is_in (first + i) n
    in-same None h = refl
    in-same (Some n) h = h

    pub use-in-same : (d : Definition) → IsOwnOwner (owner_of d) → is_use_in (behind + i) (put_row to d) ≡ is_use_in (first + i) d
    use-in-same (row.Type d) h = ap (λ (b : Bool). b && is_use (put_kind to d.kind)) (in-same d.name h) ∙ ap (λ (b : Bool). is_in (first + i) d.name && b) (use-stays d.kind)
    use-in-same (row.Function f) h = refl

    pub type-in-same : (d : Definition) → IsOwnOwner (owner_of d) → is_type_in (behind + i) (put_row to d) ≡ is_type_in (first + i) d
    type-in-same (row.Type d) h = ap (λ (b : Bool). b && not (is_use (put_kind to d.kind))) (in-same d.name h) ∙ ap (λ (b : Bool). is_in (first + i) d.name && not b) (use-stays d.kind)
    type-in-same (row.Function f) h = refl

    pub function-in-same : (d : Definition) → IsOwnOwner (owner_of d) → is_function_in (behind + i) (put_row to d) ≡ is_function_in (first + i) d
    function-in-same (row.Type d) h = refl
    function-in-same (row.Function f) h = by f.owner h
      where
        by : (o : Owner) → IsOwnOwner (Some o) → is_function_in (behind + i) (put_row to (row.Function (record f { owner = o }))) ≡ is_owned_by (first + i) o
        by (owner.Interface j) q = q
        by (owner.World w) q = refl
