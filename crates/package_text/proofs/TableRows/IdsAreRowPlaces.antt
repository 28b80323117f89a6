-- In a table in the form of packages the ids of each interface are the places of its rows.
use Rattle.std.proofs.Common.{◌≡◌, ◌+◌, ◌<◌, ◌≤◌, ℕ, suc, List, [], ◌∷◌, ◌++◌, length, map, slice_get, refl, sym, ap, ◌∙◌, append_assoc, append-nil, length-append, add-one, arith}
use Rattle.std.specs.Prelude.{Bool, true, false, not, ◌&&◌, Option, None, Some, is_some, if◌then◌else◌}
use Rattle.std.specs.List.{list_all, filter}
use Rattle.std.proofs.lemmas.Bool.{and_parts, false≢true, eqb-true, ne_eqb}
use Rattle.std.proofs.lemmas.List.Elements.{filter-append}
use Rattle.tables.specs.Tables.{type_of, function_of, is_there, is_type_id, is_function_id, is_placed}
use Rattle.tables.specs.declared.tables.TypeId.{TypeId}
use Rattle.tables.specs.declared.tables.FunctionId.{FunctionId}
use Rattle.tables.specs.declared.tables.TypeName.{TypeName}
use Rattle.tables.specs.declared.tables.Owner.{Owner}
use Rattle.tables.specs.declared.tables.Owner.TheVariants as owner
use Rattle.tables.specs.declared.tables.Definition.{Definition}
use Rattle.tables.specs.declared.tables.Definition.TheVariants as row
use Rattle.tables.specs.declared.tables.Interface.{Interface}
use Rattle.package_form.specs.Entries.{labels_of}
use Rattle.package_form.specs.Ids.{places_where, is_in, is_use, is_use_in, is_type_in, is_owned_by, is_function_in, is_of_worlds, type_id, function_id, interface_in}
use Rattle.package_form.specs.References.{row_references}
use Rattle.package_form.specs.Form.{is_own_name, is_own, uses_earlier, is_owned, is_local, is_named, is_use_type, is_use_at, is_nameless}
use Rattle.package_form.specs.Reached.{is_interface_of}
use Rattle.package_form.proofs.AllAndContains.{list-grows}
use Rattle.tree_meaning.proofs.TableRows.{places-append}
use Rattle.package_text.proofs.TableRows.RowsReadByEarlierRows.{get-there}
use Rattle.tree_meaning.specs.Resolves.{is_behind, in_package, interfaces_behind}
use Rattle.package_text.proofs.OneTablePerTree.SameNamesSameRows.{append-same}
use Rattle.package_text.proofs.TableRows.AreRegions.{is_behind_row, AreRegions, no_region, and_region}

-- ---- one kind of rows

-- a test of the rows of interface j, which a row of another interface does not pass, nor one of a world
abbrev IsOfOne : List Definition → (ℕ → Definition → Bool) → Type 0
IsOfOne rows T = ((j k : ℕ) (d : Definition) → (j ≡ k → ⊥) → is_local rows k d ≡ true → T j d ≡ false) × ((j : ℕ) (d : Definition) → is_behind d ≡ true → T j d ≡ false)

-- what a row with a name passes is told by its place
record IsTold (rows : List Definition) (T : ℕ → Definition → Bool) (q : Option Definition → Bool) : Type 0 where
  named : (k : ℕ) (d : Definition) → is_local rows k d ≡ true → is_named d ≡ true → T k d ≡ q (Some d)
  unnamed : (k : ℕ) (d : Definition) → is_named d ≡ false → T k d ≡ false

module _ (rows : List Definition) (at : ℕ → ℕ) (T : ℕ → Definition → Bool) (one : IsOfOne rows T) where
  none-of : (j k s : ℕ) (xs : List Definition) → (j ≡ k → ⊥) → list_all (is_local rows k) xs ≡ true → places_where (T j) s xs ≡ []
  none-of j k s [] n h = refl
  none-of j k s (x ∷ xs) n h =
      let t = and_parts (is_local rows k x) (list_all (is_local rows k) xs) h in
      ap (λ b. if b then s ∷ places_where (T j) (s + 1) xs else places_where (T j) (s + 1) xs) (one.0 j k x n t.0) ∙ none-of j k (s + 1) xs n t.1

  none-behind : (j : ℕ) (back : List Definition) → list_all (is_behind_row rows) back ≡ true → (s : ℕ) → places_where (T j) s back ≡ []
  none-behind j [] h s = refl
  none-behind j (x ∷ xs) h s =
      let t = and_parts (is_behind_row rows x) (list_all (is_behind_row rows) xs) h in
      let u = and_parts (is_behind x) (list_all (is_nameless rows) (row_references x)) t.0 in
      ap (λ b. if b then s ∷ places_where (T j) (s + 1) xs else places_where (T j) (s + 1) xs) (one.1 j x u.0) ∙ none-behind j xs t.1 (s + 1)

  -- no row of the interfaces that come later, nor of worlds
  none-later : (j k : ℕ) (pre : List Definition) (is : List Interface) (post : List Definition) → AreRegions rows at k pre is post → j < k → (s : ℕ) → places_where (T j) s post ≡ []
  none-later j _ _ _ _ (no_region k pre back behind home) l s = none-behind j back behind s
  none-later j _ _ _ _ (and_region k pre own post i is ends ids uses types locals here more) l s =
      places-append (T j) s own post
      ∙ (ap (λ (ns : List ℕ). ns ++ places_where (T j) (s + length own) post) (none-of j k s own (λ e. omega (arith, e, l)) locals) ∙ none-later j (suc k) (pre ++ own) is post more (omega (arith, l)) (s + length own))

  module _ (q : Option Definition → Bool) (told : IsTold rows T q) where
    selected : (k : ℕ) (front xs rest : List Definition) → rows ≡ front ++ (xs ++ rest) → list_all (is_local rows k) xs ≡ true
        → places_where (T k) (length front) xs ≡ filter (λ n. q (slice_get rows n)) (places_where is_named (length front) xs)
    selected k front [] rest e h = refl
    selected k front (x ∷ xs) rest e h =
        let t = and_parts (is_local rows k x) (list_all (is_local rows k) xs) h in
        let long : length (front ++ x ∷ []) ≡ length front + 1 = length-append front (x ∷ []) in
        let on = selected k (front ++ x ∷ []) xs rest (e ∙ sym (append_assoc front (x ∷ []) (xs ++ rest))) t.1 in
        let on' : places_where (T k) (length front + 1) xs ≡ filter (λ n. q (slice_get rows n)) (places_where is_named (length front + 1) xs) =
        ap (λ m. places_where (T k) m xs) (sym long) ∙ (on ∙ ap (λ m. filter (λ n. q (slice_get rows n)) (places_where is_named m xs)) long) in
        let got : slice_get rows (length front) ≡ Some x = ap (λ (ds : List Definition). slice_get ds (length front)) e ∙ get-there front x (xs ++ rest) in
        by (is_named x) refl t.0 got on'
      where
        by : (b : Bool) → is_named x ≡ b → is_local rows k x ≡ true → slice_get rows (length front) ≡ Some x
            → places_where (T k) (length front + 1) xs ≡ filter (λ n. q (slice_get rows n)) (places_where is_named (length front + 1) xs)
            → (if T k x then length front ∷ places_where (T k) (length front + 1) xs else places_where (T k) (length front + 1) xs)
            ≡ filter (λ n. q (slice_get rows n)) (if b then length front ∷ places_where is_named (length front + 1) xs else places_where is_named (length front + 1) xs)
        by true n l got on =
            let c : T k x ≡ q (slice_get rows (length front)) = told.named k x l n ∙ ap q (sym got) in
            ap (λ b. if b then length front ∷ places_where (T k) (length front + 1) xs else places_where (T k) (length front + 1) xs) c
            ∙ ap (λ (ns : List ℕ). if q (slice_get rows (length front)) then length front ∷ ns else ns) on
        by false n l got on =
            ap (λ b. if b then length front ∷ places_where (T k) (length front + 1) xs else places_where (T k) (length front + 1) xs) (told.unnamed k x n) ∙ on

    -- the rows of interface k are those of its region
    places-own : (k : ℕ) (pre own : List Definition) (is : List Interface) (post : List Definition) → rows ≡ pre ++ (own ++ post) → places_where (T k) 0 pre ≡ []
        → list_all (is_local rows k) own ≡ true → AreRegions rows at (suc k) (pre ++ own) is post
        → places_where (T k) 0 rows ≡ filter (λ n. q (slice_get rows n)) (places_where is_named (length pre) own)
    places-own k pre own is post e before locals more =
        ap (places_where (T k) 0) e
        ∙ (places-append (T k) 0 pre (own ++ post)
        ∙ (ap (λ (ns : List ℕ). ns ++ places_where (T k) (0 + length pre) (own ++ post)) before
        ∙ (ap (λ m. places_where (T k) m (own ++ post)) (omega arith)
        ∙ (places-append (T k) (length pre) own post
        ∙ (ap (λ (ns : List ℕ). places_where (T k) (length pre) own ++ ns) (none-later k (suc k) (pre ++ own) is post more (omega arith) (length pre + length own))
        ∙ (append-nil (places_where (T k) (length pre) own) ∙ selected k pre own post e locals))))))

-- ---- the three kinds

abbrev use_test : Option Definition → Bool
use_test o = is_use_type (type_of o)

abbrev type_test : Option Definition → Bool
type_test o = is_there (type_of o) && not (is_use_type (type_of o))

abbrev function_test : Option Definition → Bool
function_test o = is_there (function_of o)

not-in : (j k : ℕ) (m : Option TypeName) → (j ≡ k → ⊥) → is_own_name k m ≡ true → is_in j m ≡ false
not-in j k None n h = refl
not-in j k (Some m) n h = ne_eqb m.interface.0 j (λ e. n (sym e ∙ eqb-true m.interface.0 k h))

is-here : (k : ℕ) (m : Option TypeName) → is_own_name k m ≡ true → not (not (is_some m)) ≡ true → is_in k m ≡ true
is-here k None h n = absurd (false≢true n)
is-here k (Some m) h n = h

not-there : (k : ℕ) (m : Option TypeName) → not (not (is_some m)) ≡ false → is_in k m ≡ false
not-there k None h = refl
not-there k (Some m) h = absurd (false≢true (sym h))

not-owned : (j k : ℕ) (o : Owner) → (j ≡ k → ⊥) → is_owned_by k o ≡ true → is_owned_by j o ≡ false
not-owned j k (owner.Interface i) n h = ne_eqb i.0 j (λ e. n (sym e ∙ eqb-true i.0 k h))
not-owned j k (owner.World w) n h = refl

module _ (rows : List Definition) where
  own-name : (k : ℕ) (d : _) → is_local rows k (row.Type d) ≡ true → is_own_name k d.name ≡ true
  own-name k d h = (and_parts (is_own_name k d.name) (uses_earlier rows k d.kind) (and_parts (is_owned rows k (row.Type d)) (list_all (is_own rows k) (row_references (row.Type d))) h).0).0

  owner-here : (k : ℕ) (f : _) → is_local rows k (row.Function f) ≡ true → is_owned_by k f.owner ≡ true
  owner-here k f h = (and_parts (is_owned rows k (row.Function f)) (list_all (is_own rows k) (row_references (row.Function f))) h).0

  use-other : (j k : ℕ) (d : Definition) → (j ≡ k → ⊥) → is_local rows k d ≡ true → is_use_in j d ≡ false
  use-other j k (row.Type d) n h = ap (λ b. b && is_use d.kind) (not-in j k d.name n (own-name k d h))
  use-other j k (row.Function f) n h = refl

  type-other : (j k : ℕ) (d : Definition) → (j ≡ k → ⊥) → is_local rows k d ≡ true → is_type_in j d ≡ false
  type-other j k (row.Type d) n h = ap (λ b. b && not (is_use d.kind)) (not-in j k d.name n (own-name k d h))
  type-other j k (row.Function f) n h = refl

  function-other : (j k : ℕ) (d : Definition) → (j ≡ k → ⊥) → is_local rows k d ≡ true → is_function_in j d ≡ false
  function-other j k (row.Type d) n h = refl
  function-other j k (row.Function f) n h = not-owned j k f.owner n (owner-here k f h)

  not-named-in : (j : ℕ) (m : Option TypeName) → not (is_some m) ≡ true → is_in j m ≡ false
  not-named-in j None h = refl
  not-named-in j (Some m) h = absurd (false≢true h)

  use-behind : (j : ℕ) (d : Definition) → is_behind d ≡ true → is_use_in j d ≡ false
  use-behind j (row.Type d) h = ap (λ b. b && is_use d.kind) (not-named-in j d.name h)
  use-behind j (row.Function f) h = refl

  type-behind : (j : ℕ) (d : Definition) → is_behind d ≡ true → is_type_in j d ≡ false
  type-behind j (row.Type d) h = ap (λ b. b && not (is_use d.kind)) (not-named-in j d.name h)
  type-behind j (row.Function f) h = refl

  function-behind : (j : ℕ) (d : Definition) → is_behind d ≡ true → is_function_in j d ≡ false
  function-behind j (row.Type d) h = refl
  function-behind j (row.Function f) h = by f.owner h
    where
      by : (o : Owner) → is_of_worlds o ≡ true → is_owned_by j o ≡ false
      by (owner.Interface i) q = absurd (false≢true q)
      by (owner.World w) q = refl

  use-one : IsOfOne rows is_use_in
  use-one = (use-other, use-behind)

  type-one : IsOfOne rows is_type_in
  type-one = (type-other, type-behind)

  function-one : IsOfOne rows is_function_in
  function-one = (function-other, function-behind)

  use-told : IsTold rows is_use_in use_test
  use-told = record { named = named; unnamed = unnamed }
    where
      named : (k : ℕ) (d : Definition) → is_local rows k d ≡ true → is_named d ≡ true → is_use_in k d ≡ use_test (Some d)
      named k (row.Type d) l n = ap (λ b. b && is_use d.kind) (is-here k d.name (own-name k d l) n)
      named k (row.Function f) l n = refl

      unnamed : (k : ℕ) (d : Definition) → is_named d ≡ false → is_use_in k d ≡ false
      unnamed k (row.Type d) n = ap (λ b. b && is_use d.kind) (not-there k d.name n)
      unnamed k (row.Function f) n = refl

  type-told : IsTold rows is_type_in type_test
  type-told = record { named = named; unnamed = unnamed }
    where
      named : (k : ℕ) (d : Definition) → is_local rows k d ≡ true → is_named d ≡ true → is_type_in k d ≡ type_test (Some d)
      named k (row.Type d) l n = ap (λ b. b && not (is_use d.kind)) (is-here k d.name (own-name k d l) n)
      named k (row.Function f) l n = refl

      unnamed : (k : ℕ) (d : Definition) → is_named d ≡ false → is_type_in k d ≡ false
      unnamed k (row.Type d) n = ap (λ b. b && not (is_use d.kind)) (not-there k d.name n)
      unnamed k (row.Function f) n = refl

  function-told : IsTold rows is_function_in function_test
  function-told = record { named = named; unnamed = unnamed }
    where
      named : (k : ℕ) (d : Definition) → is_local rows k d ≡ true → is_named d ≡ true → is_function_in k d ≡ function_test (Some d)
      named k (row.Type d) l n = refl
      named k (row.Function f) l n = owner-here k f l

      unnamed : (k : ℕ) (d : Definition) → is_named d ≡ false → is_function_in k d ≡ false
      unnamed k (row.Type d) n = refl
      unnamed k (row.Function f) n = absurd (false≢true (sym n))

-- ---- the ids by their tests

keep : {A : Type 0} (f : A → ℕ) (q : ℕ → Bool) (xs : List A) → list_all (λ x. q (f x)) xs ≡ true → filter q (map f xs) ≡ map f xs
keep f q [] h = refl
keep f q (x ∷ xs) h =
    let t = and_parts (q (f x)) (list_all (λ x. q (f x)) xs) h in
    ap (λ b. if b then f x ∷ filter q (map f xs) else filter q (map f xs)) t.0 ∙ ap (λ (ns : List ℕ). f x ∷ ns) (keep f q xs t.1)

lose : {A : Type 0} (f : A → ℕ) (q : ℕ → Bool) (xs : List A) → list_all (λ x. not (q (f x))) xs ≡ true → filter q (map f xs) ≡ []
lose f q [] h = refl
lose f q (x ∷ xs) h =
    let t = and_parts (not (q (f x))) (list_all (λ x. not (q (f x))) xs) h in
    ap (λ b. if b then f x ∷ filter q (map f xs) else filter q (map f xs)) (not-true (q (f x)) t.0) ∙ lose f q xs t.1
  where
    not-true : (b : Bool) → not b ≡ true → b ≡ false
    not-true true h = absurd (false≢true h)
    not-true false h = refl

list-both : {A : Type 0} (p q r : A → Bool) → ((x : A) → p x ≡ true → q x ≡ true → r x ≡ true) → (xs : List A) → list_all p xs ≡ true → list_all q xs ≡ true → list_all r xs ≡ true
list-both p q r f [] h k = refl
list-both p q r f (x ∷ xs) h k =
    let s = and_parts (p x) (list_all p xs) h in
    let t = and_parts (q x) (list_all q xs) k in
    ap (λ b. b && list_all r xs) (f x s.0 t.0) ∙ list-both p q r f xs s.1 t.1

use-no-type : (o : Option Definition) → is_use_type (type_of o) ≡ true → not (type_test o) ≡ true
use-no-type None h = refl
use-no-type (Some (row.Type d)) h = ap (λ b. not (not b)) h
use-no-type (Some (row.Function f)) h = refl

type-no-function : (o : Option Definition) → is_there (type_of o) ≡ true → not (function_test o) ≡ true
type-no-function None h = refl
type-no-function (Some (row.Type d)) h = refl
type-no-function (Some (row.Function f)) h = absurd (false≢true h)

type-passes : (o : Option Definition) → is_there (type_of o) ≡ true → not (is_use_type (type_of o)) ≡ true → type_test o ≡ true
type-passes o h k = ap (λ b. b && not (is_use_type (type_of o))) h ∙ k

function-no-type : (o : Option Definition) → is_there (function_of o) ≡ true → not (type_test o) ≡ true
function-no-type None h = refl
function-no-type (Some (row.Type d)) h = absurd (false≢true h)
function-no-type (Some (row.Function f)) h = refl

function-no-use : (o : Option Definition) → is_there (function_of o) ≡ true → not (use_test o) ≡ true
function-no-use None h = refl
function-no-use (Some (row.Type d)) h = absurd (false≢true h)
function-no-use (Some (row.Function f)) h = refl

type-ids : (ts : List TypeId) → map type_id (map (λ (t : TypeId). t.0) ts) ≡ ts
type-ids [] = refl
type-ids (t ∷ ts) = ap (λ (us : List TypeId). t ∷ us) (type-ids ts)

function-ids : (fs : List FunctionId) → map function_id (map (λ (f : FunctionId). f.0) fs) ≡ fs
function-ids [] = refl
function-ids (f ∷ fs) = ap (λ (gs : List FunctionId). f ∷ gs) (function-ids fs)

-- the interface that these rows make, in the package of this one
abbrev pub made_one : List Definition → ℕ → Interface → Interface
made_one rows k i = in_package i.«package».0 (interface_in rows k i.name)

abbrev pub made : List Definition → ℕ → List Interface → List Interface
made rows k [] = []
made rows k (i ∷ is) = made_one rows k i ∷ made rows (k + 1) is

module _ (rows : List Definition) (at : ℕ → ℕ) where
  abbrev Before : (ℕ → Definition → Bool) → ℕ → List Definition → Type 0
  Before T k pre = (j : ℕ) → k ≤ j → places_where (T j) 0 pre ≡ []

  before-more : (T : ℕ → Definition → Bool) → IsOfOne rows T → (k : ℕ) (pre own : List Definition) → Before T k pre → list_all (is_local rows k) own ≡ true → Before T (suc k) (pre ++ own)
  before-more T one k pre own h locals j l =
      places-append (T j) 0 pre own
      ∙ (ap (λ (ns : List ℕ). ns ++ places_where (T j) (0 + length pre) own) (h j (omega (arith, l))) ∙ none-of rows at T one j k (0 + length pre) own (λ e. omega (arith, e, l)) locals)

  ids-from : (k : ℕ) (pre : List Definition) (is : List Interface) (post : List Definition) → AreRegions rows at k pre is post → rows ≡ pre ++ post
      → Before is_use_in k pre → Before is_type_in k pre → Before is_function_in k pre → list_all (is_placed rows) is ≡ true → is ≡ made rows k is
  ids-from _ _ _ _ (no_region k pre back behind home) e bu bt bf placed = refl
  ids-from _ _ _ _ (and_region k pre own post i is ends ids uses types locals here more) e bu bt bf placed =
      let us = map (λ (t : TypeId). t.0) i.uses in
      let ts = map (λ (t : TypeId). t.0) i.types in
      let fs = map (λ (f : FunctionId). f.0) i.functions in
      let s = and_parts (is_placed rows i) (list_all (is_placed rows) is) placed in
      let q = and_parts (list_all (is_type_id rows) i.uses) (list_all (is_type_id rows) i.types && list_all (is_function_id rows) i.functions) s.0 in
      let q' = and_parts (list_all (is_type_id rows) i.types) (list_all (is_function_id rows) i.functions) q.1 in
      let flat : rows ≡ (pre ++ own) ++ post = e ∙ sym (append_assoc pre own post) in
      let others = ids-from (suc k) (pre ++ own) is post more flat (before-more is_use_in (use-one rows) k pre own bu locals) (before-more is_type_in (type-one rows) k pre own bt locals)
      (before-more is_function_in (function-one rows) k pre own bf locals) s.1 in
      let used : places_where (is_use_in k) 0 rows ≡ us =
      places-own rows at is_use_in (use-one rows) use_test (use-told rows) k pre own is post e (bu k (omega arith)) locals more
      ∙ (ap (filter (λ n. use_test (slice_get rows n))) (sym ids)
      ∙ parted (λ n. use_test (slice_get rows n)) us ts fs us [] [] (keep (λ (t : TypeId). t.0) (λ n. use_test (slice_get rows n)) i.uses uses) (lose (λ (t : TypeId). t.0) (λ n. use_test (slice_get rows n)) i.types types)
      (lose (λ (f : FunctionId). f.0) (λ n. use_test (slice_get rows n)) i.functions (list-grows (is_function_id rows) (λ f. not (use_test (slice_get rows f.0))) (λ f. function-no-use (slice_get rows f.0)) i.functions q'.1))
      ∙ append-nil us) in
      let typed : places_where (is_type_in k) 0 rows ≡ ts =
      places-own rows at is_type_in (type-one rows) type_test (type-told rows) k pre own is post e (bt k (omega arith)) locals more
      ∙ (ap (filter (λ n. type_test (slice_get rows n))) (sym ids)
      ∙ parted (λ n. type_test (slice_get rows n)) us ts fs [] ts []
      (lose (λ (t : TypeId). t.0) (λ n. type_test (slice_get rows n)) i.uses (list-grows (is_use_at rows) (λ t. not (type_test (slice_get rows t.0))) (λ t. use-no-type (slice_get rows t.0)) i.uses uses))
      (keep (λ (t : TypeId). t.0) (λ n. type_test (slice_get rows n)) i.types (list-both (is_type_id rows) (λ t. not (is_use_at rows t)) (λ t. type_test (slice_get rows t.0)) (λ t. type-passes (slice_get rows t.0)) i.types q'.0 types))
      (lose (λ (f : FunctionId). f.0) (λ n. type_test (slice_get rows n)) i.functions (list-grows (is_function_id rows) (λ f. not (type_test (slice_get rows f.0))) (λ f. function-no-type (slice_get rows f.0)) i.functions q'.1))
      ∙ append-nil ts) in
      let called : places_where (is_function_in k) 0 rows ≡ fs =
      places-own rows at is_function_in (function-one rows) function_test (function-told rows) k pre own is post e (bf k (omega arith)) locals more
      ∙ (ap (filter (λ n. function_test (slice_get rows n))) (sym ids)
      ∙ parted (λ n. function_test (slice_get rows n)) us ts fs [] [] fs
      (lose (λ (t : TypeId). t.0) (λ n. function_test (slice_get rows n)) i.uses (list-grows (is_type_id rows) (λ t. not (function_test (slice_get rows t.0))) (λ t. type-no-function (slice_get rows t.0)) i.uses q.0))
      (lose (λ (t : TypeId). t.0) (λ n. function_test (slice_get rows n)) i.types (list-grows (is_type_id rows) (λ t. not (function_test (slice_get rows t.0))) (λ t. type-no-function (slice_get rows t.0)) i.types q'.0))
      (keep (λ (f : FunctionId). f.0) (λ n. function_test (slice_get rows n)) i.functions q'.1)) in
      let mine : i ≡ made_one rows k i = same-interface i (made_one rows k i) refl refl
      (sym (ap (map type_id) used ∙ type-ids i.uses)) (sym (ap (map type_id) typed ∙ type-ids i.types)) (sym (ap (map function_id) called ∙ function-ids i.functions)) in
      ap (λ (x : Interface). x ∷ is) mine ∙ (ap (λ (js : List Interface). made_one rows k i ∷ js) others ∙ ap (λ m. made_one rows k i ∷ made rows m is) (sym (add-one k)))
    where
      parted : (q : ℕ → Bool) (ks bs cs xs ys zs : List ℕ) → filter q ks ≡ xs → filter q bs ≡ ys → filter q cs ≡ zs → filter q (ks ++ (bs ++ cs)) ≡ xs ++ (ys ++ zs)
      parted q ks bs cs xs ys zs a b c = let x = filter-append q ks (bs ++ cs) in let y = filter-append q bs cs in cc

      same-interface : (i j : Interface) → i.«package» ≡ j.«package» → i.name ≡ j.name → i.uses ≡ j.uses → i.types ≡ j.types → i.functions ≡ j.functions → i ≡ j
      same-interface i j a b c d e =
          ap (λ x. record { «package» = x; name = i.name; uses = i.uses; types = i.types; functions = i.functions }) a
          ∙ (ap (λ x. record { «package» = j.«package»; name = x; uses = i.uses; types = i.types; functions = i.functions }) b
          ∙ (ap (λ x. record { «package» = j.«package»; name = j.name; uses = x; types = i.types; functions = i.functions }) c
          ∙ (ap (λ x. record { «package» = j.«package»; name = j.name; uses = j.uses; types = x; functions = i.functions }) d
          ∙ ap (λ x. record { «package» = j.«package»; name = j.name; uses = j.uses; types = j.types; functions = x }) e)))

made-append : (rows : List Definition) (k : ℕ) (is js : List Interface) → made rows k (is ++ js) ≡ made rows k is ++ made rows (k + length is) js
made-append rows k [] js = ap (λ n. made rows n js) (omega arith)
made-append rows k (i ∷ is) js = ap (λ (xs : List Interface). made_one rows k i ∷ xs) (made-append rows (k + 1) is js ∙ ap (λ n. made rows (k + 1) is ++ made rows n js) (omega arith))

made-length : (rows : List Definition) (k : ℕ) (is : List Interface) → length (made rows k is) ≡ length is
made-length rows k [] = refl
made-length rows k (i ∷ is) = ap suc (made-length rows (k + 1) is)

made-of : (n : ℕ) (rows : List Definition) (k : ℕ) (is : List Interface) → list_all (is_interface_of n) is ≡ true → made rows k is ≡ interfaces_behind n k rows (labels_of is)
made-of n rows k [] h = refl
made-of n rows k (i ∷ is) h =
    let s = and_parts (is_interface_of n i) (list_all (is_interface_of n) is) h in
    ap (λ m. in_package m (interface_in rows k i.name) ∷ made rows (k + 1) is) (eqb-true i.«package».0 n s.0)
    ∙ ap (λ (xs : List Interface). in_package n (interface_in rows k i.name) ∷ xs) (made-of n rows (k + 1) is s.1)

-- the interfaces of package n are what their rows make them, behind those of others
pub own-ids : (n : ℕ) (rows : List Definition) (at : ℕ → ℕ) (front own : List Interface) → AreRegions rows at 0 [] (front ++ own) rows → list_all (is_placed rows) (front ++ own) ≡ true
    → list_all (is_interface_of n) own ≡ true → own ≡ interfaces_behind n (length front) rows (labels_of own)
own-ids n rows at front own regions placed all =
    let whole = ids-from rows at 0 [] (front ++ own) rows regions refl (λ j l. refl) (λ j l. refl) (λ j l. refl) placed in
    let parted = whole ∙ made-append rows 0 front own in
    let back = (append-same front (made rows 0 front) own (made rows (0 + length front) own) (sym (made-length rows 0 front)) parted).1 in
    let here : 0 + length front ≡ length front = omega arith in
    back ∙ (ap (λ m. made rows m own) here ∙ made-of n rows (length front) own all)
