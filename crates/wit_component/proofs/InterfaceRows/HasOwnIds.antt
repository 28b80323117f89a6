-- The ids of an interface: those of its rows that are used names, types and functions.
use Rattle.std.proofs.Common.{◌≡◌, ℕ, ◌+◌, Bool, true, false, cond, not, ◌&&◌, IsTrue, List, [], ◌∷◌, ◌++◌, map, filter, slice_get, Option, None, Some, is_some, refl, ap, sym, ◌∙◌, append-nil}
use Rattle.std.specs.List.{list_all}
use Rattle.std.proofs.lemmas.List.Elements.{filter-append}
use Rattle.package_form.specs.Ids.{is_use, places_where, type_id, function_id}
use Rattle.tables.specs.Tables.{type_of, function_of, is_there, is_type_id, is_function_id, is_placed}
use Rattle.tables.specs.declared.tables.TypeId.{TypeId}
use Rattle.tables.specs.declared.tables.FunctionId.{FunctionId}
use Rattle.tables.specs.declared.tables.Definition.{Definition}
use Rattle.tables.specs.declared.tables.Definition.TheVariants as row
use Rattle.tables.specs.declared.tables.Interface.{Interface}
use Rattle.package_form.specs.Form.{is_named, is_use_type, is_use_at, ids_of}
use Rattle.package_form.proofs.InnerRowsInPostfix.{is_function}
use Rattle.wit_component.proofs.ReadAgain.IdsAfterRows.{is_use_row, is_type_row}
use Rattle.wit_component.proofs.InterfaceRows.RowsStandInOrder.{StandAt}
use Rattle.wit_component.proofs.AcceptedComponents.DeclaredRows.{is_use_def}
use Rattle.tables.proofs.ClosedTypesRowByRow.{split, both}

-- ---- the rows with names that pass a test

abbrev pub passes : (Definition → Bool) → Option Definition → Bool
passes r None = false
passes r (Some d) = r d

module _ (table : List Definition) (p r : Definition → Bool) (is : (d : Definition) → p d ≡ (is_named d && r d)) where
  named-places : (n : ℕ) (ds : List Definition) → StandAt table n ds
      → places_where p n ds ≡ filter (λ m. passes r (slice_get table m)) (places_where is_named n ds)
  named-places n [] h = refl
  named-places n (d ∷ ds) h = by (is_named d) (is d) (named-places (n + 1) ds h.1)
    where
      by : (b : Bool) → p d ≡ (b && r d) → places_where p (n + 1) ds ≡ filter (λ m. passes r (slice_get table m)) (places_where is_named (n + 1) ds)
          → places_where p n (d ∷ ds) ≡ filter (λ m. passes r (slice_get table m)) (cond b (n ∷ places_where is_named (n + 1) ds) (places_where is_named (n + 1) ds))
      by true e again =
          ap (λ b. cond b (n ∷ places_where p (n + 1) ds) (places_where p (n + 1) ds)) (e ∙ ap (passes r) (sym h.0))
          ∙ ap (λ ns. cond (passes r (slice_get table n)) (n ∷ ns) ns) again
      by false e again = ap (λ b. cond b (n ∷ places_where p (n + 1) ds) (places_where p (n + 1) ds)) e ∙ again

module _ {A : Type 0} (f : A → ℕ) (q : ℕ → Bool) (test : A → Bool) where
  filter-all : ((x : A) → test x ≡ true → q (f x) ≡ true) → (xs : List A) → list_all test xs ≡ true → filter q (map f xs) ≡ map f xs
  filter-all h [] e = refl
  filter-all h (x ∷ xs) e =
      let s = split (test x) (list_all test xs) e in
      ap (λ b. cond b (f x ∷ filter q (map f xs)) (filter q (map f xs))) (h x s.0) ∙ ap (λ ns. f x ∷ ns) (filter-all h xs s.1)

  filter-none : ((x : A) → test x ≡ true → q (f x) ≡ false) → (xs : List A) → list_all test xs ≡ true → filter q (map f xs) ≡ []
  filter-none h [] e = refl
  filter-none h (x ∷ xs) e =
      let s = split (test x) (list_all test xs) e in
      ap (λ b. cond b (f x ∷ filter q (map f xs)) (filter q (map f xs))) (h x s.0) ∙ filter-none h xs s.1

pub both-all : {A : Type 0} (p q : A → Bool) (xs : List A) → list_all p xs ≡ true → list_all q xs ≡ true → list_all (λ x. p x && q x) xs ≡ true
both-all p q [] h e = refl
both-all p q (x ∷ xs) h e =
    let s = split (p x) (list_all p xs) h in
    let t = split (q x) (list_all q xs) e in
    both _ _ (both _ _ s.0 t.0) (both-all p q xs s.1 t.1)

-- ---- the three kinds

abbrev is_type_def : Definition → Bool
is_type_def (row.Type d) = not (is_use d.kind)
is_type_def (row.Function f) = false

use-named : (d : Definition) → is_use_row d ≡ (is_named d && is_use_def d)
use-named (row.Type d) = by (is_some d.name)
  where
    by : (b : Bool) → (b && is_use d.kind) ≡ (not (not b) && is_use d.kind)
    by true = refl
    by false = refl
use-named (row.Function f) = refl

type-named : (d : Definition) → is_type_row d ≡ (is_named d && is_type_def d)
type-named (row.Type d) = by (is_some d.name)
  where
    by : (b : Bool) → (b && not (is_use d.kind)) ≡ (not (not b) && not (is_use d.kind))
    by true = refl
    by false = refl
type-named (row.Function f) = refl

function-named : (d : Definition) → is_function d ≡ (is_named d && is_function d)
function-named (row.Type d) = by (is_named (row.Type d))
  where
    by : (b : Bool) → false ≡ (b && false)
    by true = refl
    by false = refl
function-named (row.Function f) = refl

pub of-use : (o : Option Definition) → is_use_type (type_of o) ≡ true → (passes is_use_def o ≡ true) × (passes is_type_def o ≡ false) × (passes is_function o ≡ false)
of-use None h = absurd (cc)
of-use (Some (row.Type d)) h = (h, ap not h, refl)
of-use (Some (row.Function f)) h = absurd (cc)

pub of-type : (o : Option Definition) → IsTrue (not (is_use_type (type_of o)) && is_there (type_of o))
    → (passes is_use_def o ≡ false) × (passes is_type_def o ≡ true) × (passes is_function o ≡ false)
of-type None h = absurd (cc)
of-type (Some (row.Type d)) h = by (is_use d.kind) h
  where
    by : (b : Bool) → IsTrue (not b && true) → (b ≡ false) × (not b ≡ true) × (false ≡ false)
    by true h = absurd (cc)
    by false h = (refl, refl, refl)
of-type (Some (row.Function f)) h = absurd (cc)

pub of-function : (o : Option Definition) → is_there (function_of o) ≡ true → (passes is_use_def o ≡ false) × (passes is_type_def o ≡ false) × (passes is_function o ≡ true)
of-function None h = absurd (cc)
of-function (Some (row.Type d)) h = absurd (cc)
of-function (Some (row.Function f)) h = (refl, refl, refl)

-- ---- an interface

types-again : (ts : List TypeId) → map type_id (map (λ t. t.0) ts) ≡ ts
types-again [] = refl
types-again (t ∷ ts) = ap (λ us. t ∷ us) (types-again ts)

functions-again : (fs : List FunctionId) → map function_id (map (λ f. f.0) fs) ≡ fs
functions-again [] = refl
functions-again (f ∷ fs) = ap (λ gs. f ∷ gs) (functions-again fs)

pub record HasOwnIds (start : ℕ) (i : Interface) (ds : List Definition) : Type 0 where
  pub uses : map type_id (places_where is_use_row start ds) ≡ i.uses
  pub types : map type_id (places_where is_type_row start ds) ≡ i.types
  pub functions : map function_id (places_where is_function start ds) ≡ i.functions

module _ (table : List Definition) (start : ℕ) (i : Interface) (ds : List Definition) (stand : StandAt table start ds)
    (ids : ids_of i ≡ places_where is_named start ds) (uses : list_all (is_use_at table) i.uses ≡ true)
    (types : list_all (λ t. not (is_use_at table t)) i.types ≡ true) (placed : IsTrue (is_placed table i)) where
  placed-types : list_all (is_type_id table) i.types ≡ true
  placed-types = (split _ _ (split (list_all (is_type_id table) i.uses) _ placed).1).0

  placed-functions : list_all (is_function_id table) i.functions ≡ true
  placed-functions = (split (list_all (is_type_id table) i.types) _ (split (list_all (is_type_id table) i.uses) _ placed).1).1

  parted : (p r : Definition → Bool) → ((d : Definition) → p d ≡ (is_named d && r d)) → (us ts fs : List ℕ)
      → filter (λ m. passes r (slice_get table m)) (map (λ t. t.0) i.uses) ≡ us → filter (λ m. passes r (slice_get table m)) (map (λ t. t.0) i.types) ≡ ts
      → filter (λ m. passes r (slice_get table m)) (map (λ f. f.0) i.functions) ≡ fs → places_where p start ds ≡ us ++ (ts ++ fs)
  parted p r is us ts fs a b c =
      let q = λ (m : ℕ). passes r (slice_get table m) in
      named-places table p r is start ds stand ∙ ap (filter q) (sym ids)
      ∙ filter-append q (map (λ t. t.0) i.uses) (map (λ t. t.0) i.types ++ map (λ f. f.0) i.functions)
      ∙ ap (λ ns. ns ++ filter q (map (λ t. t.0) i.types ++ map (λ f. f.0) i.functions)) a
      ∙ ap (λ ns. us ++ ns) (filter-append q (map (λ t. t.0) i.types) (map (λ f. f.0) i.functions) ∙ ap (λ ns. ns ++ filter q (map (λ f. f.0) i.functions)) b ∙ ap (λ ns. ts ++ ns) c)

  typed : list_all (λ t. not (is_use_at table t) && is_type_id table t) i.types ≡ true
  typed = both-all (λ t. not (is_use_at table t)) (is_type_id table) i.types types placed-types

  pub own-ids : HasOwnIds start i ds
  own-ids = record {
    uses = ap (map type_id) (parted is_use_row is_use_def use-named (map (λ t. t.0) i.uses) [] []
        (filter-all (λ t. t.0) _ (is_use_at table) (λ t h. (of-use (slice_get table t.0) h).0) i.uses uses)
        (filter-none (λ t. t.0) _ (λ t. not (is_use_at table t) && is_type_id table t) (λ t h. (of-type (slice_get table t.0) h).0) i.types typed)
        (filter-none (λ f. f.0) _ (is_function_id table) (λ f h. (of-function (slice_get table f.0) h).0) i.functions placed-functions)
        ∙ append-nil (map (λ t. t.0) i.uses)) ∙ types-again i.uses;
    types = ap (map type_id) (parted is_type_row is_type_def type-named [] (map (λ t. t.0) i.types) []
        (filter-none (λ t. t.0) _ (is_use_at table) (λ t h. (of-use (slice_get table t.0) h).1) i.uses uses)
        (filter-all (λ t. t.0) _ (λ t. not (is_use_at table t) && is_type_id table t) (λ t h. (of-type (slice_get table t.0) h).1) i.types typed)
        (filter-none (λ f. f.0) _ (is_function_id table) (λ f h. (of-function (slice_get table f.0) h).1) i.functions placed-functions)
        ∙ append-nil (map (λ t. t.0) i.types)) ∙ types-again i.types;
    functions = ap (map function_id) (parted is_function is_function function-named [] [] (map (λ f. f.0) i.functions)
        (filter-none (λ t. t.0) _ (is_use_at table) (λ t h. (of-use (slice_get table t.0) h).2) i.uses uses)
        (filter-none (λ t. t.0) _ (λ t. not (is_use_at table t) && is_type_id table t) (λ t h. (of-type (slice_get table t.0) h).2) i.types typed)
        (filter-all (λ f. f.0) _ (is_function_id table) (λ f h. (of-function (slice_get table f.0) h).2) i.functions placed-functions)) ∙ functions-again i.functions;
  }
