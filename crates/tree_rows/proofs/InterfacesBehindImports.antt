-- A package's interfaces behind its imports.
use Rattle.std.proofs.Common.{◌≡◌, ℕ, ◌+◌, ◌-◌, ◌<◌, ◌≤◌, true, ◌&&◌, nat_le, nat_lt, List, [], ◌∷◌, ◌++◌, Option, None, Some, map, take, set, length, get_or, slice_get, refl, ap, sym, ◌∙◌, subst, arith}
use Rattle.std.specs.List.{list_all}
use Rattle.std.proofs.lemmas.Bool.{ltb-true, le-leb, lt-ltb}
use Rattle.std.proofs.lemmas.List.{map-append, map-set, get_or-map}
use Rattle.std.proofs.lemmas.List.Folds.{list_all-append}
use Rattle.tables.specs.Tables.{is_there, type_of, function_of, is_type_id, is_function_id, is_placed, are_placed, are_grouped}
use Rattle.tables.specs.declared.tables.TypeId.{TypeId}
use Rattle.tables.specs.declared.tables.FunctionId.{FunctionId}
use Rattle.tables.specs.declared.tables.TypeDefKind.{TypeDefKind}
use Rattle.tables.specs.declared.tables.TypeDefKind.TheVariants as kind
use Rattle.tables.specs.declared.tables.Definition.{Definition}
use Rattle.tables.specs.declared.tables.Definition.TheVariants as row
use Rattle.tables.specs.declared.tables.Interface.{Interface}
use Rattle.tables.proofs.ClosedTypesRowByRow.{split, both}
use Rattle.package_form.proofs.AllAndContains.{list-grows}
use Rattle.package_form.specs.Ids.{interface_in, interfaces_from}
use Rattle.tree_meaning.specs.Finished.{definition_interface, with_new_type, with_definition}
use Rattle.tree_meaning.specs.Resolves.{in_package, interfaces_behind}
use Rattle.tree_rows.proofs.IdsAndTypeEntries.{interfaces-more, rows-elsewhere, rows-there}
use Rattle.tree_meaning.proofs.TableRows.{interfaces-length, get-some}

type-there : (rows more : List Definition) (t : TypeId) → is_type_id rows t ≡ true → is_type_id (rows ++ more) t ≡ true
type-there rows more t h = by (slice_get rows t.0) refl h
  where
    by : (o : Option Definition) → slice_get rows t.0 ≡ o → is_there (type_of o) ≡ true → is_type_id (rows ++ more) t ≡ true
    by None e q = absurd (cc)
    by (Some d) e q = ap (λ (o : Option Definition). is_there (type_of o)) (get-some rows more t.0 d e) ∙ q

function-there : (rows more : List Definition) (f : FunctionId) → is_function_id rows f ≡ true → is_function_id (rows ++ more) f ≡ true
function-there rows more f h = by (slice_get rows f.0) refl h
  where
    by : (o : Option Definition) → slice_get rows f.0 ≡ o → is_there (function_of o) ≡ true → is_function_id (rows ++ more) f ≡ true
    by None e q = absurd (cc)
    by (Some d) e q = ap (λ (o : Option Definition). is_there (function_of o)) (get-some rows more f.0 d e) ∙ q

placed-there : (rows more : List Definition) (i : Interface) → is_placed rows i ≡ true → is_placed (rows ++ more) i ≡ true
placed-there rows more i h =
    let a = split (list_all (is_type_id rows) i.uses) _ h in
    let b = split (list_all (is_type_id rows) i.types) (list_all (is_function_id rows) i.functions) a.1 in
    both _ _ (list-grows (is_type_id rows) (is_type_id (rows ++ more)) (type-there rows more) i.uses a.0)
    (both _ _ (list-grows (is_type_id rows) (is_type_id (rows ++ more)) (type-there rows more) i.types b.0)
    (list-grows (is_function_id rows) (is_function_id (rows ++ more)) (function-there rows more) i.functions b.1))

own-placed : (rows : List Definition) (n : ℕ) (own : List Interface) → are_placed rows own ≡ true → are_placed rows (map (in_package n) own) ≡ true
own-placed rows n [] h = refl
own-placed rows n (i ∷ own) h =
    let s = split (is_placed rows i) (are_placed rows own) h in
    both (is_placed rows (in_package n i)) (are_placed rows (map (in_package n) own)) s.0 (own-placed rows n own s.1)

pub placed-behind : (old rows more : List Definition) (n : ℕ) (is own : List Interface) → rows ≡ old ++ more → are_placed old is ≡ true → are_placed rows own ≡ true
    → are_placed rows (is ++ map (in_package n) own) ≡ true
placed-behind old rows more n is own e h k =
    list_all-append (is_placed rows) is (map (in_package n) own)
    ∙ both (are_placed rows is) (are_placed rows (map (in_package n) own))
    (subst (λ (ds : List Definition). are_placed ds is ≡ true) (sym e) (list-grows (is_placed old) (is_placed (old ++ more)) (placed-there old more) is h))
    (own-placed rows n own k)

own-grouped : (n first : ℕ) (own : List Interface) → first ≤ n → are_grouped (n + 1) first (map (in_package n) own) ≡ true
own-grouped n first [] l = refl
own-grouped n first (i ∷ own) l =
    both (nat_le first n && nat_lt n (n + 1)) (are_grouped (n + 1) n (map (in_package n) own))
    (both (nat_le first n) (nat_lt n (n + 1)) (le-leb first n l) (lt-ltb n (n + 1) (omega arith))) (own-grouped n n own (omega arith))

grouped-from : (n first : ℕ) (is own : List Interface) → first ≤ n → are_grouped n first is ≡ true → are_grouped (n + 1) first (is ++ map (in_package n) own) ≡ true
grouped-from n first [] own l h = own-grouped n first own l
grouped-from n first (i ∷ is) own l h =
    let p = i.«package».0 in
    let s = split (nat_le first p && nat_lt p n) (are_grouped n p is) h in
    let q = split (nat_le first p) (nat_lt p n) s.0 in
    let below : p < n = ltb-true p n q.1 in
    both (nat_le first p && nat_lt p (n + 1)) (are_grouped (n + 1) p (is ++ map (in_package n) own))
    (both (nat_le first p) (nat_lt p (n + 1)) q.0 (lt-ltb p (n + 1) (omega (arith, below)))) (grouped-from n p is own (omega (arith, below)) s.1)

pub grouped-behind : (n : ℕ) (is own : List Interface) → are_grouped n 0 is ≡ true → are_grouped (n + 1) 0 (is ++ map (in_package n) own) ≡ true
grouped-behind n is own h = grouped-from n 0 is own (omega arith) h

pub interfaces-more-in : (n : ℕ) (rows : List Definition) (first : ℕ) (ns : List (List ℕ)) (k : ℕ) (name : List ℕ) → k < length ns → name ≡ get_or ns k name
    → interfaces_behind n first rows (take (k + 1) ns) ≡ interfaces_behind n first rows (take k ns) ++ in_package n (interface_in rows (first + k) name) ∷ []
interfaces-more-in n rows first ns k name l is =
    ap (map (in_package n)) (interfaces-more rows first ns k name l is) ∙ map-append (in_package n) (interfaces_from rows first (take k ns)) (interface_in rows (first + k) name ∷ [])

with-in : (n k : ℕ) (d : Definition) (y : Interface) → in_package n (with_definition k d y) ≡ with_definition k d (in_package n y)
with-in n k (row.Function f) y = refl
with-in n k (row.Type d) y = by d.kind
  where
    by : (t : TypeDefKind) → in_package n (with_new_type k t y) ≡ with_new_type k t (in_package n y)
    by (kind.Use t) = refl
    by _ = refl

module _ (n : ℕ) (rows : List Definition) (k : ℕ) (d : Definition) (l : k < length rows) (at : d ≡ get_or rows k d) where
  -- the row stands in none of these interfaces
  pub rows-elsewhere-in : (first : ℕ) (ns : List (List ℕ)) → ((j : ℕ) → j < length ns → definition_interface d ≡ Some (first + j) → ⊥)
      → interfaces_behind n first (take (k + 1) rows) ns ≡ interfaces_behind n first (take k rows) ns
  rows-elsewhere-in first ns h =
      ap (map (in_package n)) (rows-elsewhere rows k d l at first ns (λ j p q g.
      let same : j ≡ first + (j - first) = omega (arith, p) in
      h (j - first) (omega (arith, p, q)) (g ∙ ap (λ (m : ℕ). Some m) same)))

  -- .. or in the one at place m
  pub rows-there-in : (first m : ℕ) (ns : List (List ℕ)) (e : Interface) → m < length ns → definition_interface d ≡ Some (first + m)
      → interfaces_behind n first (take (k + 1) rows) ns ≡ set (interfaces_behind n first (take k rows) ns) m (with_definition k d (get_or (interfaces_behind n first (take k rows) ns) m e))
  rows-there-in first m ns e q h =
      let xs = interfaces_from (take k rows) first ns in
      let here : m < length xs = omega (arith, q, interfaces-length (take k rows) first ns) in
      ap (map (in_package n)) (rows-there rows k d l at first m ns e q h)
      ∙ map-set (in_package n) xs m (with_definition k d (get_or xs m e))
      ∙ ap (set (map (in_package n) xs) m) (with-in n k d (get_or xs m e) ∙ ap (with_definition k d) (sym (get_or-map (in_package n) xs m e e here)))
