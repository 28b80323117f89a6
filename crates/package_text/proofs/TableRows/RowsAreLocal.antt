-- In a table in the form of packages each row is local to its interface, and an interface ends behind a row with a name.
use Rattle.std.proofs.Common.{◌≡◌, ◌+◌, ◌<◌, ◌≤◌, ℕ, zero, suc, List, [], ◌∷◌, ◌++◌, length, map, slice_get, refl, sym, ap, subst, ◌∙◌, append_assoc, append-nil, length-append, arith, ◌⊎◌, inl, inr}
use Rattle.std.specs.Prelude.{Bool, true, false, not, nat_lt, Some, if◌then◌else◌}
use Rattle.std.specs.List.{list_all}
use Rattle.std.proofs.lemmas.Bool.{and_parts, false≢true, ltb-true, ltb-false}
use Rattle.tables.specs.Tables.{are_earlier}
use Rattle.tables.specs.declared.tables.TypeId.{TypeId}
use Rattle.tables.specs.declared.tables.FunctionId.{FunctionId}
use Rattle.tables.specs.declared.tables.Owner.{Owner}
use Rattle.tables.specs.declared.tables.Owner.TheVariants as owner
use Rattle.tables.specs.declared.tables.Definition.{Definition}
use Rattle.tables.specs.declared.tables.Definition.TheVariants as row
use Rattle.tables.specs.declared.tables.Interface.{Interface}
use Rattle.package_form.specs.Postfix.{is_unnamed}
use Rattle.package_form.specs.Ids.{places_where, is_owned_by, is_of_worlds, is_world_function}
use Rattle.package_form.specs.Ends.{behind_types, behind_functions, end_of}
use Rattle.package_form.specs.Form.{is_named, ids_of, is_own, is_local}
use Rattle.package_form.specs.References.{row_references}
use Rattle.package_form.proofs.AllAndContains.{get-front, all-get}
use Rattle.package_text.proofs.TableRows.RowsReadByEarlierRows.{row-below, get-there}
use Rattle.package_form.specs.Postfix.{IsPostfix}
use Rattle.package_form.proofs.PostfixIsDecided.{postfix-used}
use Rattle.tree_meaning.proofs.RowsOfEachInterface.{is_inner_row, used-inner}
use Rattle.tree_meaning.proofs.TableRows.{at-true, behind}
use Rattle.package_text.proofs.TableRows.LocalRows.{local-here, world-here}
use Rattle.package_text.proofs.TableRows.RowsReadAsTrees as by_front
use Rattle.package_text.proofs.TableRows.AreRegions.{is_behind_row, AreRegions, no_region, and_region}
use Rattle.package_text.proofs.TableRows.RowsReadAsTrees.{IsOwned}

-- ---- where an interface ends

behind-append : (s : ℕ) (xs ys : List ℕ) → behind s (xs ++ ys) ≡ behind (behind s xs) ys
behind-append s [] ys = refl
behind-append s (x ∷ xs) ys = behind-append (x + 1) xs ys

types-behind : (s : ℕ) (ts : List TypeId) → behind_types s ts ≡ behind s (map (λ (t : TypeId). t.0) ts)
types-behind s [] = refl
types-behind s (t ∷ ts) = types-behind (t.0 + 1) ts

functions-behind : (s : ℕ) (fs : List FunctionId) → behind_functions s fs ≡ behind s (map (λ (f : FunctionId). f.0) fs)
functions-behind s [] = refl
functions-behind s (f ∷ fs) = functions-behind (f.0 + 1) fs

ends-behind : (s : ℕ) (i : Interface) → end_of s i ≡ behind s (ids_of i)
ends-behind s i =
    let us = map (λ (t : TypeId). t.0) i.uses in
    let ts = map (λ (t : TypeId). t.0) i.types in
    let fs = map (λ (f : FunctionId). f.0) i.functions in
    functions-behind (behind_types (behind_types s i.uses) i.types) i.functions
    ∙ (ap (λ n. behind n fs) (types-behind (behind_types s i.uses) i.types ∙ ap (λ n. behind n ts) (types-behind s i.uses))
    ∙ (sym (behind-append (behind s us) ts fs) ∙ sym (behind-append s us (ts ++ fs))))

-- behind the last row that has a name, where the last row has none
short : (s b : ℕ) (own : List Definition) (j : ℕ) (d : Definition) → slice_get own j ≡ Some d → is_named d ≡ false → suc j ≡ length own → b ≤ s → behind b (places_where is_named s own) ≤ s + j
short s b [] j d e u l m = absurd cc
short s b (x ∷ []) zero d e u l m =
    let same : x ≡ d = cc in
    let none : is_named x ≡ false = ap is_named same ∙ u in
    subst (λ c. behind b (if c then s ∷ [] else []) ≤ s + 0) (sym none) (omega (arith, m))
short s b (x ∷ []) (suc j) d e u l m = absurd (omega (arith, l))
short s b (x ∷ y ∷ ys) zero d e u l m = absurd (omega (arith, l))
short s b (x ∷ y ∷ ys) (suc j) d e u l m = by (is_named x) (λ c n. short (s + 1) c (y ∷ ys) j d e u (omega (arith, l)) n)
  where
    by : (c : Bool) → ((a : ℕ) → a ≤ s + 1 → behind a (places_where is_named (s + 1) (y ∷ ys)) ≤ (s + 1) + j)
        → behind b (if c then s ∷ places_where is_named (s + 1) (y ∷ ys) else places_where is_named (s + 1) (y ∷ ys)) ≤ s + suc j
    by true on = let h = on (s + 1) (omega arith) in omega (arith, h)
    by false on = let h = on b (omega (arith, m)) in omega (arith, h)

-- ---- a row among those of one interface

pub inside : (pre own post front : List Definition) (d : Definition) (rest : List Definition) → pre ++ (own ++ post) ≡ front ++ d ∷ rest → length pre ≤ length front → length front < length pre + length own
    → (j : ℕ) × (slice_get own j ≡ Some d) × (length pre + j ≡ length front)
inside [] own post front d rest e l u =
    (length front, sym (get-front own post (length front) (omega (arith, u))) ∙ (ap (λ (xs : List Definition). slice_get xs (length front)) e ∙ get-there front d rest), omega arith)
inside (p ∷ pre) own post [] d rest e l u = absurd (omega (arith, l))
inside (p ∷ pre) own post (f ∷ front) d rest e l u =
    let t : pre ++ (own ++ post) ≡ front ++ d ∷ rest = cc in
    let x = inside pre own post front d rest t (omega (arith, l)) (omega (arith, u)) in
    (x.0, x.1, omega (arith, x.2))

module _ (rows : List Definition) (at : ℕ → ℕ) where
  -- a row of an interface, or of a world
  abbrev IsOfRows : List Definition → Definition → Type 0
  IsOfRows front d = (is_local rows (at (length front)) d ≡ true) ⊎ (is_behind_row rows d ≡ true)

  local-at : (k : ℕ) (pre : List Definition) (is : List Interface) (post : List Definition) → AreRegions rows at k pre is post → rows ≡ pre ++ post
      → (front : List Definition) (d : Definition) (rest : List Definition) → rows ≡ front ++ d ∷ rest → length pre ≤ length front → IsOfRows front d
  local-at _ _ _ _ (no_region k pre back behind home) e front d rest f l =
      let a = ap length e in
      let b = ap length f in
      let c = length-append pre back in
      let g = length-append front (d ∷ rest) in
      let x = inside pre back [] front d rest (ap (λ (xs : List Definition). pre ++ xs) (append-nil back) ∙ (sym e ∙ f)) l (omega (arith, a, b, c, g)) in
      inr (all-get (is_behind_row rows) back x.0 d behind x.1)
  local-at _ _ _ _ (and_region k pre own post i is ends ids uses types locals here more) e front d rest f l =
      by (nat_lt (length front) (length (pre ++ own))) refl (λ m. local-at (suc k) (pre ++ own) is post more (e ∙ sym (append_assoc pre own post)) front d rest f m)
    where
      by : (b : Bool) → nat_lt (length front) (length (pre ++ own)) ≡ b → (length (pre ++ own) ≤ length front → IsOfRows front d) → IsOfRows front d
      by true q on =
          let u = ltb-true (length front) (length (pre ++ own)) q in
          let x = inside pre own post front d rest (sym e ∙ f) l (let a = length-append pre own in omega (arith, u, a)) in
          inl (ap (λ j. is_local rows j d) (here (length front) l u) ∙ all-get (is_local rows k) own x.0 d locals x.1)
      by false q on = on (ltb-false (length front) (length (pre ++ own)) q)

  onward-at : (k : ℕ) (pre : List Definition) (is : List Interface) (post : List Definition) → AreRegions rows at k pre is post → rows ≡ pre ++ post
      → (front : List Definition) (d : Definition) (rest : List Definition) → rows ≡ front ++ d ∷ rest → length pre ≤ length front → is_named d ≡ false → at (suc (length front)) ≡ at (length front)
  onward-at _ _ _ _ (no_region k pre back behind home) e front d rest f l n = home (suc (length front)) (omega (arith, l)) ∙ sym (home (length front) l)
  onward-at _ _ _ _ (and_region k pre own post i is ends ids uses types locals here more) e front d rest f l n =
      by (nat_lt (length front) (length (pre ++ own))) refl (λ m. onward-at (suc k) (pre ++ own) is post more (e ∙ sym (append_assoc pre own post)) front d rest f m n)
    where
      within : length front < length (pre ++ own) → suc (length front) < length (pre ++ own)
      within u = last (nat_lt (suc (length front)) (length (pre ++ own))) refl
        where
          last : (b : Bool) → nat_lt (suc (length front)) (length (pre ++ own)) ≡ b → suc (length front) < length (pre ++ own)
          last true q = ltb-true (suc (length front)) (length (pre ++ own)) q
          last false q =
              let a = length-append pre own in
              let w = ltb-false (suc (length front)) (length (pre ++ own)) q in
              let x = inside pre own post front d rest (sym e ∙ f) l (omega (arith, u, a)) in
              let s = short (length pre) (length pre) own x.0 d x.1 n (omega (arith, u, w, a, x.2)) (omega arith) in
              let t : length (pre ++ own) ≡ behind (length pre) (places_where is_named (length pre) own) = sym ends ∙ (ends-behind (length pre) i ∙ ap (behind (length pre)) ids) in
              absurd (omega (arith, s, t, x.2, u))

      by : (b : Bool) → nat_lt (length front) (length (pre ++ own)) ≡ b → (length (pre ++ own) ≤ length front → at (suc (length front)) ≡ at (length front)) → at (suc (length front)) ≡ at (length front)
      by true q on =
          let u = ltb-true (length front) (length (pre ++ own)) q in
          here (suc (length front)) (omega (arith, l)) (within u) ∙ sym (here (length front) l u)
      by false q on = on (ltb-false (length front) (length (pre ++ own)) q)

not-named : (d : Definition) → is_unnamed d ≡ true → is_named d ≡ false
not-named d h = ap not h

-- each row is local, and the row behind one without a name is of the same interface
pub rows-owned : (ns : List (List ℕ)) (rows : List Definition) (at : ℕ → ℕ) (is : List Interface) → are_earlier 0 rows ≡ true → IsPostfix rows → AreRegions rows at 0 [] is rows → IsOwned ns rows at
rows-owned ns rows at is earlier postfix regions = record {
  local = λ front d rest e. local front d rest e (local-at rows at 0 [] is rows regions refl front d rest e (omega arith));
  onward = λ front d rest e u. onward-at rows at 0 [] is rows regions refl front d rest e (omega arith) (not-named d u);
}
  where
    local : (front : List Definition) (d : Definition) (rest : List Definition) → rows ≡ front ++ d ∷ rest → (is_local rows (at (length front)) d ≡ true) ⊎ (is_behind_row rows d ≡ true)
        → by_front.is_local ns front (at (length front)) d ≡ true
    local front d rest e h =
        let below = row-below front d rest (subst (λ (ds : List Definition). are_earlier 0 ds ≡ true) e earlier) in
        elim h [
          | inl q ↦ local-here ns front (d ∷ rest) (at (length front)) d below (subst (λ (ds : List Definition). is_local ds (at (length front)) d ≡ true) e q)
          | inr q ↦
              let inner = at-true is_inner_row front d rest (subst (λ (ds : List Definition). list_all is_inner_row ds ≡ true) e (used-inner rows 0 [] rows (postfix-used rows earlier postfix))) in
              world-here ns front (d ∷ rest) (at (length front)) d below inner (subst (λ (ds : List Definition). is_behind_row ds d ≡ true) e q)
        ]

-- ---- functions of worlds

pub local-unworldly : (rows : List Definition) (k : ℕ) (d : Definition) → is_local rows k d ≡ true → not (is_world_function d) ≡ true
local-unworldly rows k (row.Type d) h = refl
local-unworldly rows k (row.Function f) h =
    by f.owner (and_parts (is_owned_by k f.owner) (list_all (is_own rows k) (row_references (row.Function f))) h).0
  where
    by : (o : Owner) → is_owned_by k o ≡ true → not (is_of_worlds o) ≡ true
    by (owner.Interface i) q = refl
    by (owner.World w) q = absurd (false≢true q)
