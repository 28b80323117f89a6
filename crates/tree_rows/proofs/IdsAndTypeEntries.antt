-- The ids of interfaces, and type entries.
use Rattle.std.proofs.Common.{◌≡◌, ℕ, zero, suc, ◌+◌, ◌<◌, ◌≤◌, Bool, true, false, cond, ◌&&◌, IsTrue, List, [], ◌∷◌, ◌++◌, Option, None, Some, map, take, set, not, length, get_or, refl, ap, sym, ◌∙◌, arith, append-nil}
use Rattle.std.specs.List.{list_all}
use Rattle.std.proofs.lemmas.List.{length-take, map-append}
use Rattle.std.proofs.lemmas.Bool.{eq-eqb, ne_eqb}
use Rattle.std.proofs.lemmas.Option.{same_Some}
use Rattle.tables.specs.declared.tables.TypeName.{TypeName}
use Rattle.tables.specs.declared.tables.TypeDefKind.{TypeDefKind}
use Rattle.tables.specs.declared.tables.TypeDefKind.TheVariants as kind
use Rattle.tables.specs.Tables.{is_type_id, is_function_id, is_placed, are_placed, is_there, type_of, function_of}
use Rattle.package_form.specs.Ids.{places_where, is_in, is_use, is_owned_by, is_use_in, is_type_in, is_function_in, type_id, function_id, interface_in, interfaces_from}
use Rattle.tree_meaning.specs.Finished.{named_in, owned_in, definition_interface, with_new_type, with_definition}
use Rattle.tables.specs.declared.tables.TypeDef.{TypeDef}
use Rattle.tables.specs.declared.tables.Owner.{Owner}
use Rattle.tables.specs.declared.tables.Owner.TheVariants as owner
use Rattle.tables.specs.declared.tables.Interface.{Interface}
use Rattle.tables.specs.declared.tables.Definition.{Definition}
use Rattle.tables.specs.declared.tables.Definition.TheVariants as row
use Rattle.tables.proofs.ClosedTypesRowByRow.{both}
use Rattle.package_form.proofs.NamesMetOneByOne.{take-more}
use Rattle.tree_meaning.proofs.TableRows.{kept-all}

module _ (is : Definition → Bool) where
  pub places-end : (n : ℕ) (ds : List Definition) (d : Definition) → places_where is n (ds ++ d ∷ []) ≡ places_where is n ds ++ cond (is d) ((n + length ds) ∷ []) []
  places-end n [] d = by (is d)
    where
      by : (b : Bool) → cond b (n ∷ []) [] ≡ cond b ((n + 0) ∷ []) []
      by true = let e : n ≡ n + 0 = omega arith in ap (λ (m : ℕ). m ∷ []) e
      by false = refl
  places-end n (e ∷ ds) d = by (is e) (places-end (n + 1) ds d)
    where
      same : n + 1 + length ds ≡ n + suc (length ds)
      same = omega arith

      by : (b : Bool) → places_where is (n + 1) (ds ++ d ∷ []) ≡ places_where is (n + 1) ds ++ cond (is d) ((n + 1 + length ds) ∷ []) []
          → cond b (n ∷ places_where is (n + 1) (ds ++ d ∷ [])) (places_where is (n + 1) (ds ++ d ∷ [])) ≡ cond b (n ∷ places_where is (n + 1) ds) (places_where is (n + 1) ds) ++ cond (is d) ((n + suc (length ds)) ∷ []) []
      by true h = ap (λ (ms : List ℕ). n ∷ ms) (h ∙ ap (λ (m : ℕ). places_where is (n + 1) ds ++ cond (is d) (m ∷ []) []) same)
      by false h = h ∙ ap (λ (m : ℕ). places_where is (n + 1) ds ++ cond (is d) (m ∷ []) []) same

  module _ {A : Type 0} (id : ℕ → A) (rows : List Definition) (k : ℕ) (d : Definition) (l : k < length rows) (at : d ≡ get_or rows k d) where
    ids-more : map id (places_where is 0 (take (k + 1) rows)) ≡ map id (places_where is 0 (take k rows)) ++ map id (cond (is d) (k ∷ []) [])
    ids-more =
        let len : 0 + length (take k rows) ≡ k = omega (arith, length-take k rows) in
        ap (λ (ds : List Definition). map id (places_where is 0 ds)) (take-more rows k d l at)
        ∙ ap (map id) (places-end 0 (take k rows) d)
        ∙ map-append id (places_where is 0 (take k rows)) (cond (is d) ((0 + length (take k rows)) ∷ []) [])
        ∙ ap (λ (m : ℕ). map id (places_where is 0 (take k rows)) ++ map id (cond (is d) (m ∷ []) [])) len

interfaces-end : (rows : List Definition) (i : ℕ) (ns : List (List ℕ)) (n : List ℕ) → interfaces_from rows i (ns ++ n ∷ []) ≡ interfaces_from rows i ns ++ interface_in rows (i + length ns) n ∷ []
interfaces-end rows i [] n = let e : i ≡ i + 0 = omega arith in ap (λ (j : ℕ). interface_in rows j n ∷ []) e
interfaces-end rows i (m ∷ ns) n =
    let e : i + 1 + length ns ≡ i + suc (length ns) = omega arith in
    ap (λ (is : List Interface). interface_in rows i m ∷ is) (interfaces-end rows (i + 1) ns n ∙ ap (λ (j : ℕ). interfaces_from rows (i + 1) ns ++ interface_in rows j n ∷ []) e)

pub interfaces-more : (rows : List Definition) (first : ℕ) (ns : List (List ℕ)) (k : ℕ) (n : List ℕ) → k < length ns → n ≡ get_or ns k n
    → interfaces_from rows first (take (k + 1) ns) ≡ interfaces_from rows first (take k ns) ++ interface_in rows (first + k) n ∷ []
interfaces-more rows first ns k n l is =
    let len : first + length (take k ns) ≡ first + k = omega (arith, length-take k ns) in
    ap (interfaces_from rows first) (take-more ns k n l is) ∙ interfaces-end rows first (take k ns) n ∙ ap (λ (j : ℕ). interfaces_from rows first (take k ns) ++ interface_in rows j n ∷ []) len

-- ---- a row more

-- the interface with the id of this row, where the row stands in it
abbrev added : ℕ → Definition → ℕ → Interface → Interface
added k d i x = record {
  «package» = x.«package»;
  name = x.name;
  uses = x.uses ++ map type_id (cond (is_use_in i d) (k ∷ []) []);
  types = x.types ++ map type_id (cond (is_type_in i d) (k ∷ []) []);
  functions = x.functions ++ map function_id (cond (is_function_in i d) (k ∷ []) []);
}

type-there : (k : ℕ) (d : TypeDef) (i : ℕ) (x : Interface) → is_in i d.name ≡ true → added k (row.Type d) i x ≡ with_definition k (row.Type d) x
type-there k d i x e = rw e (by d.kind)
  where
    by : (t : TypeDefKind) → record {
      «package» = x.«package»;
      name = x.name;
      uses = x.uses ++ map type_id (cond (is_use t) (k ∷ []) []);
      types = x.types ++ map type_id (cond (not (is_use t)) (k ∷ []) []);
      functions = x.functions ++ [];
    } ≡ with_new_type k t x
    by (kind.Use t) = rw (append-nil x.types, append-nil x.functions) refl
    by (kind.Alias v) = rw (append-nil x.uses, append-nil x.functions) refl
    by (kind.List v) = rw (append-nil x.uses, append-nil x.functions) refl
    by (kind.Option v) = rw (append-nil x.uses, append-nil x.functions) refl
    by (kind.Result v w) = rw (append-nil x.uses, append-nil x.functions) refl
    by (kind.Tuple vs) = rw (append-nil x.uses, append-nil x.functions) refl
    by (kind.Record fs) = rw (append-nil x.uses, append-nil x.functions) refl
    by (kind.Variant cs) = rw (append-nil x.uses, append-nil x.functions) refl
    by (kind.Enum ns) = rw (append-nil x.uses, append-nil x.functions) refl
    by (kind.Flags ns) = rw (append-nil x.uses, append-nil x.functions) refl

nothing-added : (x : Interface) → record { «package» = x.«package»; name = x.name; uses = x.uses ++ []; types = x.types ++ []; functions = x.functions ++ [] } ≡ x
nothing-added x = rw (append-nil x.uses, append-nil x.types, append-nil x.functions) refl

named-there : (n : Option TypeName) (i : ℕ) → named_in n ≡ Some i → is_in i n ≡ true
named-there None i e = absurd (cc)
named-there (Some n) i e = eq-eqb n.interface.0 i (same_Some _ _ e)

named-elsewhere : (n : Option TypeName) (i : ℕ) → (named_in n ≡ Some i → ⊥) → is_in i n ≡ false
named-elsewhere None i h = refl
named-elsewhere (Some n) i h = ne_eqb n.interface.0 i (λ e. h (ap (λ (m : ℕ). Some m) e))

owned-there : (o : Owner) (i : ℕ) → owned_in o ≡ Some i → is_owned_by i o ≡ true
owned-there (owner.Interface j) i e = eq-eqb j.0 i (same_Some _ _ e)
owned-there (owner.World w) i e = absurd (cc)

owned-elsewhere : (o : Owner) (i : ℕ) → (owned_in o ≡ Some i → ⊥) → is_owned_by i o ≡ false
owned-elsewhere (owner.Interface j) i h = ne_eqb j.0 i (λ e. h (ap (λ (m : ℕ). Some m) e))
owned-elsewhere (owner.World w) i h = refl

added-there : (k : ℕ) (d : Definition) (i : ℕ) (x : Interface) → definition_interface d ≡ Some i → added k d i x ≡ with_definition k d x
added-there k (row.Type d) i x e = type-there k d i x (named-there d.name i e)
added-there k (row.Function f) i x e = rw (owned-there f.owner i e, append-nil x.uses, append-nil x.types) refl

added-elsewhere : (k : ℕ) (d : Definition) (i : ℕ) (x : Interface) → (definition_interface d ≡ Some i → ⊥) → added k d i x ≡ x
added-elsewhere k (row.Type d) i x h = rw (named-elsewhere d.name i h) (nothing-added x)
added-elsewhere k (row.Function f) i x h = rw (owned-elsewhere f.owner i h) (nothing-added x)

module _ (rows : List Definition) (k : ℕ) (d : Definition) (l : k < length rows) (at : d ≡ get_or rows k d) where
  one-more : (i : ℕ) (n : List ℕ) → interface_in (take (k + 1) rows) i n ≡ added k d i (interface_in (take k rows) i n)
  one-more i n =
      rw (ids-more (is_use_in i) type_id rows k d l at, ids-more (is_type_in i) type_id rows k d l at, ids-more (is_function_in i) function_id rows k d l at) refl

  -- the row stands in none of these interfaces
  pub rows-elsewhere : (i : ℕ) (ns : List (List ℕ)) → ((j : ℕ) → i ≤ j → j < i + length ns → definition_interface d ≡ Some j → ⊥)
      → interfaces_from (take (k + 1) rows) i ns ≡ interfaces_from (take k rows) i ns
  rows-elsewhere i [] h = refl
  rows-elsewhere i (n ∷ ns) h =
      rw (
        one-more i n ∙ added-elsewhere k d i (interface_in (take k rows) i n) (h i (omega arith) (omega arith)),
        rows-elsewhere (i + 1) ns (λ j p q. h j (omega (arith, p)) (omega (arith, q))),
      ) refl

  -- .. or in the one at place m
  pub rows-there : (i m : ℕ) (ns : List (List ℕ)) (e : Interface) → m < length ns → definition_interface d ≡ Some (i + m)
      → interfaces_from (take (k + 1) rows) i ns ≡ set (interfaces_from (take k rows) i ns) m (with_definition k d (get_or (interfaces_from (take k rows) i ns) m e))
  rows-there i m [] e q h = absurd (omega arith)
  rows-there i zero (n ∷ ns) e q h =
      let same : i + 0 ≡ i = omega arith in
      let here : definition_interface d ≡ Some i = h ∙ ap (λ (j : ℕ). Some j) same in
      rw (
        one-more i n ∙ added-there k d i (interface_in (take k rows) i n) here,
        rows-elsewhere (i + 1) ns (λ j p r g. let z : i ≡ j = same_Some _ _ (sym here ∙ g) in absurd (omega (arith, p, z))),
      ) refl
  rows-there i (suc m) (n ∷ ns) e q h =
      let same : i + suc m ≡ i + 1 + m = omega arith in
      rw (
        one-more i n ∙ added-elsewhere k d i (interface_in (take k rows) i n) (λ g. let z : i + suc m ≡ i = same_Some _ _ (sym h ∙ g) in absurd (omega (arith, z))),
        rows-there (i + 1) m ns e (omega (arith, q)) (h ∙ ap (λ (j : ℕ). Some j) same),
      ) refl

list_all-map : {A : Type 0} (p : A → Bool) (f : ℕ → A) (ns : List ℕ) → list_all p (map f ns) ≡ list_all (λ n. p (f n)) ns
list_all-map p f [] = refl
list_all-map p f (n ∷ ns) = ap (λ b. p (f n) && b) (list_all-map p f ns)

use-type : (i : ℕ) (d : Definition) → is_use_in i d ≡ true → is_there (type_of (Some d)) ≡ true
use-type i (row.Type d) e = refl
use-type i (row.Function f) e = absurd (cc)

type-type : (i : ℕ) (d : Definition) → is_type_in i d ≡ true → is_there (type_of (Some d)) ≡ true
type-type i (row.Type d) e = refl
type-type i (row.Function f) e = absurd (cc)

function-function : (i : ℕ) (d : Definition) → is_function_in i d ≡ true → is_there (function_of (Some d)) ≡ true
function-function i (row.Type d) e = absurd (cc)
function-function i (row.Function f) e = refl

one-placed : (rows : List Definition) (i : ℕ) (n : List ℕ) → is_placed rows (interface_in rows i n) ≡ true
one-placed rows i n =
    let uses = list_all-map (is_type_id rows) type_id (places_where (is_use_in i) 0 rows) ∙ kept-all (is_use_in i) (λ o. is_there (type_of o)) (use-type i) rows [] rows 0 refl refl in
    let types = list_all-map (is_type_id rows) type_id (places_where (is_type_in i) 0 rows) ∙ kept-all (is_type_in i) (λ o. is_there (type_of o)) (type-type i) rows [] rows 0 refl refl in
    let functions = list_all-map (is_function_id rows) function_id (places_where (is_function_in i) 0 rows) ∙ kept-all (is_function_in i) (λ o. is_there (function_of o)) (function-function i) rows [] rows 0 refl refl in
    both _ _ uses (both _ _ types functions)

pub all-placed-ids : (rows : List Definition) (i : ℕ) (ns : List (List ℕ)) → IsTrue (are_placed rows (interfaces_from rows i ns))
all-placed-ids rows i [] = refl
all-placed-ids rows i (n ∷ ns) = both _ _ (one-placed rows i n) (all-placed-ids rows (i + 1) ns)
