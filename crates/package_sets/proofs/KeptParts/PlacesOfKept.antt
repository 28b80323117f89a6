-- Where what is kept of a set stands in the set.
use Rattle.std.proofs.Common.{◌≡◌, ◌≤◌, ◌<◌, ◌⊎◌, inl, inr, ℕ, zero, suc, ◌+◌, ◌-◌, Bool, true, false, List, [], ◌∷◌, ◌++◌, length, map, get_or, slice_get, Option, Some, refl, ap, sym, ◌∙◌, arith, true≢false}
use Rattle.std.proofs.lemmas.List.{get_or_append_left, get_or-append-add}
use Rattle.package_form.specs.Ends.{behind_types, behind_functions, end_of, world_end}
use Rattle.package_form.proofs.FullNamesStandForInterfaces.{package-there}
use Rattle.tables.specs.declared.tables.TypeId.{TypeId}
use Rattle.tables.specs.declared.tables.FunctionId.{FunctionId}
use Rattle.tables.specs.declared.tables.Interface.{Interface}
use Rattle.tables.specs.declared.tables.World.{World}
use Rattle.tables.specs.declared.tables.Resolve.{Resolve}
use Rattle.set_rows.specs.Places.{place}
use Rattle.set_rows.specs.Renamed.{renaming}
use Rattle.set_rows.specs.Moved.{put_interface}
use Rattle.package_sets.specs.Joining.{end_in, row_places}
use Rattle.package_sets.specs.Part.{IsPart}
use Rattle.package_sets.specs.Set.{AreRowsOf, ArePackageByPackage, behind_all, an_interface, a_world, AreWorldsApart}
use Rattle.set_rows.specs.declared.moved.Moved.{Moved}
use Rattle.package_sets.proofs.KeptParts.KeptTogether.{AreAll, place-all, place-left}
use Rattle.set_rows.proofs.KeptElementsAndPlaces.{kept-at, place-order}
use Rattle.set_rows.proofs.PlacesOfMarked.{place-none}
use Rattle.package_sets.proofs.GrowingLists.{length-places, place-get}
use Rattle.package_sets.proofs.KeptParts.KeptRowsKeepMeaning.{AreMarksFrom, marks-here, marks-next}
use Rattle.package_sets.proofs.OwnedRows.EachRowHasAnOwner.{one-later, plus-none, none-plus}
use Rattle.package_sets.proofs.KeptParts.KeptIsPackageByPackage.{interface-step, interface-marks, interface-mark, world-marks, world-mark}
use Rattle.package_sets.proofs.OwnedRows.RowsAreOwned.{cut}
use Rattle.package_sets.proofs.KeptParts.PropertiesOfKept.{interface-in}
use Rattle.std.specs.List.{items_where_true, range_with_len}

-- ---- the places with a mark

-- the places of marks, the first of which is that of place n
abbrev pub marked_places : ℕ → List Bool → List ℕ
marked_places n [] = []
marked_places n (true ∷ bs) = n ∷ marked_places (n + 1) bs
marked_places n (false ∷ bs) = marked_places (n + 1) bs

pub marked-at : (n : ℕ) (bs : List Bool) (k : ℕ) → get_or bs k false ≡ true → get_or (marked_places n bs) (place bs k) 0 ≡ n + k
marked-at n [] k h = absurd (true≢false (sym h))
marked-at n (true ∷ bs) zero h = omega arith
marked-at n (false ∷ bs) zero h = absurd (true≢false (sym h))
marked-at n (true ∷ bs) (suc k) h =
    let up : 1 + place bs k ≡ suc (place bs k) = omega arith in
    ap (λ m. get_or (n ∷ marked_places (n + 1) bs) m 0) up ∙ (marked-at (n + 1) bs k h ∙ one-later n k)
marked-at n (false ∷ bs) (suc k) h = marked-at (n + 1) bs k h ∙ one-later n k

pub length-marked : {A : Type 0} (n : ℕ) (bs : List Bool) (xs : List A) → length bs ≡ length xs → length (marked_places n bs) ≡ length (items_where_true bs xs)
length-marked n [] xs h = refl
length-marked n (b ∷ bs) [] h = absurd (omega (arith, h))
length-marked n (true ∷ bs) (x ∷ xs) h = ap suc (length-marked (n + 1) bs xs (omega (arith, h)))
length-marked n (false ∷ bs) (x ∷ xs) h = length-marked (n + 1) bs xs (omega (arith, h))

-- an element that is kept, and where it stood
pub record WasKept {A : Type 0} (bs : List Bool) (xs : List A) (a : ℕ) (x : A) : Type 0 where
  pub from : ℕ
  pub marked : get_or bs from false ≡ true
  pub stood : slice_get xs from ≡ Some x
  pub is : place bs from ≡ a

pub was-kept : {A : Type 0} (bs : List Bool) (xs : List A) (a : ℕ) (x : A) → slice_get (items_where_true bs xs) a ≡ Some x → WasKept bs xs a x
was-kept [] xs a x e = absurd (cc)
was-kept (b ∷ bs) [] a x e = absurd (cc)
was-kept (true ∷ bs) (y ∷ xs) zero x e = record { from = 0; marked = refl; stood = e; is = refl }
was-kept (true ∷ bs) (y ∷ xs) (suc a) x e =
    let r = was-kept bs xs a x e in
    record { from = suc r.from; marked = r.marked; stood = r.stood; is = ap (λ m. 1 + m) r.is ∙ up a }
  where
    up : (m : ℕ) → 1 + m ≡ suc m
    up m = omega arith
was-kept (false ∷ bs) (y ∷ xs) a x e =
    let r = was-kept bs xs a x e in
    record { from = suc r.from; marked = r.marked; stood = r.stood; is = r.is }

-- ---- packages

-- the package of an interface that is kept
pub kept-package : (s : Resolve) (to : Moved) → IsPart s to → (k : ℕ) (i : Interface) → get_or to.interfaces k false ≡ true → slice_get s.interfaces k ≡ Some i
    → slice_get (items_where_true to.packages s.packages) (place to.packages i.«package».0) ≡ slice_get s.packages i.«package».0
kept-package s to n k i h e =
    let p = package-there s.packages i.«package».0 (interface-in s k i e) in
    kept-at to.packages s.packages i.«package».0 p.0 (n.interfaces_needed k i h e) p.1 ∙ sym p.1

-- ---- the place behind an interface's rows

ends-same : (start : ℕ) (us ts : List TypeId) (fs : List FunctionId) → start < behind_functions (behind_types (behind_types start us) ts) fs
    → behind_functions (behind_types (behind_types 0 us) ts) fs ≡ behind_functions (behind_types (behind_types start us) ts) fs
ends-same start us ts (f ∷ fs) h = refl
ends-same start us (t ∷ ts) [] h = refl
ends-same start (u ∷ us) [] [] h = refl
ends-same start [] [] [] h = absurd (omega arith)

-- where it has rows, it is the same from any start
end-same : (start : ℕ) (i : Interface) → start < end_of start i → end_of 0 i ≡ end_of start i
end-same start i h = ends-same start i.uses i.types i.functions h

-- ---- rows

-- no row of a block that isn't kept is kept
not-there : (bs : List Bool) (start end u : ℕ) → start ≤ end → AreAll false bs start (end - start) → start ≤ u → u < end → get_or bs u false ≡ true → ⊥
not-there bs start end u l a b e h =
    let at : start + (u - start) ≡ u = omega arith in
    true≢false (sym h ∙ (ap (λ k. get_or bs k false) (sym at) ∙ a.each (u - start) (omega arith)))

fewer-all : (b : Bool) (bs : List Bool) (a n m : ℕ) → m ≤ n → AreAll b bs a n → AreAll b bs a m
fewer-all b bs a n m l h = record { each = λ x k. h.each x (omega (arith, k, l)) }

module _ (s : Resolve) (to : Moved) (n : IsPart s to) (apart : AreWorldsApart s) (none : (k : ℕ) → get_or to.worlds k false ≡ true → ⊥) where
  -- the place of a row that is kept, among the places of those of these interfaces
  abbrev found : ℕ → ℕ → List Interface → List Bool → ℕ → ℕ
  found base k is bs u = get_or (row_places s base (map (put_interface (renaming to)) (items_where_true bs is)) (marked_places k bs)) (place to.rows u - base) 0

  abbrev IsFoundFrom : ℕ → ℕ → List Interface → List Bool → Type 0
  IsFoundFrom start k is bs = (base u : ℕ) → base ≡ place to.rows start → start ≤ u → u < length s.definitions → get_or to.rows u false ≡ true → found base k is bs u ≡ u

  -- a block that is kept
  interface-found : (start k : ℕ) (i : Interface) (is : List Interface) (bs : List Bool) → k < length s.interfaces → AreRowsOf s.definitions start k i → get_or to.interfaces k false ≡ true → slice_get s.interfaces k ≡ Some i
      → IsFoundFrom (end_of start i) (k + 1) is bs → IsFoundFrom start k (i ∷ is) (true ∷ bs)
  interface-found start k i is bs within a h at rest base u e l m kept-u = by (cut u (end_of start i))
    where
      all : AreAll true to.rows start (end_of start i - start)
      all = interface-marks s to n start k i true a (interface-mark s to n k within ∙ h)

      ends : end_of (place to.rows start) (put_interface (renaming to) i) ≡ place to.rows (end_of start i)
      ends = (interface-step s to n start k i within a all).1

      whole : start + (end_of start i - start) ≡ end_of start i
      whole = omega (arith, a.begins)

      grown : place to.rows (end_of start i) ≡ base + (end_of start i - start)
      grown = ap (place to.rows) (sym whole) ∙ (place-all to.rows start (end_of start i - start) all ∙ ap (λ x. x + (end_of start i - start)) (sym e))

      end-there : end_of base (put_interface (renaming to) i) ≡ base + (end_of start i - start)
      end-there = ap (λ x. end_of x (put_interface (renaming to) i)) e ∙ (ends ∙ grown)

      count : end_of base (put_interface (renaming to) i) - base ≡ end_of start i - start
      count = omega (arith, end-there)

      list-is : row_places s base (map (put_interface (renaming to)) (items_where_true (true ∷ bs) (i ∷ is))) (marked_places k (true ∷ bs))
          ≡ range_with_len (end_of 0 i - (end_of start i - start)) (end_of start i - start) ++ row_places s (end_of base (put_interface (renaming to) i)) (map (put_interface (renaming to)) (items_where_true bs is)) (marked_places (k + 1) bs)
      list-is =
          ap (λ (o : Option Interface). range_with_len (end_in o - (end_of base (put_interface (renaming to) i) - base)) (end_of base (put_interface (renaming to) i) - base)
          ++ row_places s (end_of base (put_interface (renaming to) i)) (map (put_interface (renaming to)) (items_where_true bs is)) (marked_places (k + 1) bs)) at
          ∙ ap (λ x. range_with_len (end_of 0 i - x) x ++ row_places s (end_of base (put_interface (renaming to) i)) (map (put_interface (renaming to)) (items_where_true bs is)) (marked_places (k + 1) bs)) count

      by : (u < end_of start i) ⊎ (end_of start i ≤ u) → found base k (i ∷ is) (true ∷ bs) u ≡ u
      by (inl b) =
          let index = u - start in
          let spot : start + (u - start) ≡ u = omega arith in
          let placed : place to.rows u ≡ base + (u - start) =
          ap (place to.rows) (sym spot) ∙ (place-all to.rows start (u - start) (fewer-all true to.rows start (end_of start i - start) (u - start) (omega arith) all) ∙ ap (λ x. x + (u - start)) (sym e)) in
          let from-base : place to.rows u - base ≡ u - start = omega (arith, placed) in
          let end-is = end-same start i (omega (arith, b, l)) in
          ap (λ (xs : List ℕ). get_or xs (place to.rows u - base) 0) list-is
          ∙ (ap (λ x. get_or (range_with_len (end_of 0 i - (end_of start i - start)) (end_of start i - start)
          ++ row_places s (end_of base (put_interface (renaming to) i)) (map (put_interface (renaming to)) (items_where_true bs is)) (marked_places (k + 1) bs)) x 0) from-base
          ∙ (get_or_append_left (range_with_len (end_of 0 i - (end_of start i - start)) (end_of start i - start)) _ 0 (u - start) (omega (arith, b, l, length-places (end_of 0 i - (end_of start i - start)) (end_of start i - start)))
          ∙ (place-get (end_of 0 i - (end_of start i - start)) (end_of start i - start) (u - start) (omega (arith, b, l)) ∙ omega (arith, end-is, b, l, a.begins))))
      by (inr g) =
          let later = place-order to.rows (end_of start i) u g in
          let index : place to.rows u - base ≡ length (range_with_len (end_of 0 i - (end_of start i - start)) (end_of start i - start)) + (place to.rows u - end_of base (put_interface (renaming to) i)) =
          omega (arith, length-places (end_of 0 i - (end_of start i - start)) (end_of start i - start), grown, later, end-there) in
          ap (λ (xs : List ℕ). get_or xs (place to.rows u - base) 0) list-is
          ∙ (ap (λ x. get_or (range_with_len (end_of 0 i - (end_of start i - start)) (end_of start i - start)
          ++ row_places s (end_of base (put_interface (renaming to) i)) (map (put_interface (renaming to)) (items_where_true bs is)) (marked_places (k + 1) bs)) x 0) index
          ∙ (get_or-append-add (range_with_len (end_of 0 i - (end_of start i - start)) (end_of start i - start)) _ (place to.rows u - end_of base (put_interface (renaming to) i)) 0
          ∙ rest (end_of base (put_interface (renaming to) i)) u (end-there ∙ sym grown) g m kept-u))

  -- .. and one that isn't
  block-over : (start end k : ℕ) (is : List Interface) (bs : List Bool) → start ≤ end → AreAll false to.rows start (end - start) → IsFoundFrom end k is bs → IsFoundFrom start k is bs
  block-over start end k is bs l a rest base u e b m h = by (cut u end)
    where
      whole : start + (end - start) ≡ end
      whole = omega arith

      same : place to.rows end ≡ place to.rows start
      same = ap (place to.rows) (sym whole) ∙ place-left to.rows start (end - start) a

      by : (u < end) ⊎ (end ≤ u) → found base k is bs u ≡ u
      by (inl z) = absurd (not-there to.rows start end u l a b z h)
      by (inr z) = rest base u (e ∙ sym same) z m h

  none-behind : (count start u : ℕ) → start ≡ count → start ≤ u → u < count → ⊥
  none-behind count start u e l m = omega arith

  rows-found-from : (start k : ℕ) (is : List Interface) (j : ℕ) (ws : List World) → ArePackageByPackage s.definitions start k is j ws → (bs : List Bool) → AreMarksFrom to.interfaces k bs → k + length is ≡ length s.interfaces
      → length bs ≡ length is → j + length ws ≡ length s.worlds → ((m : ℕ) (x : Interface) → slice_get is m ≡ Some x → slice_get s.interfaces (k + m) ≡ Some x) → IsFoundFrom start k is bs
  rows-found-from _ _ _ _ _ (behind_all start k j e) bs ms v w x at = λ base u z l m h. absurd (none-behind (length s.definitions) start u e l m)
  rows-found-from _ _ _ _ _ (an_interface start k i is j ws a before rest) [] ms v w x at = absurd (omega (arith, w))
  rows-found-from _ _ _ _ _ (an_interface start k i is j ws a before rest) (true ∷ bs) ms v w x at =
      let here = marks-here to.interfaces k true bs ms in
      let this : slice_get s.interfaces k ≡ Some i = ap (slice_get s.interfaces) (sym (plus-none k)) ∙ at 0 i refl in
      interface-found start k i is bs (omega (arith, v)) a here this
      (rows-found-from (end_of start i) (k + 1) is j ws rest bs (marks-next to.interfaces k (k + 1) true bs refl ms) (omega (arith, v)) (omega (arith, w)) x (λ m y e. ap (slice_get s.interfaces) (one-later k m) ∙ at (suc m) y e))
  rows-found-from _ _ _ _ _ (an_interface start k i is j ws a before rest) (false ∷ bs) ms v w x at =
      let here = marks-here to.interfaces k false bs ms in
      let within : k < length s.interfaces = omega (arith, v) in
      block-over start (end_of start i) k (i ∷ is) (false ∷ bs) a.begins (interface-marks s to n start k i false a (interface-mark s to n k within ∙ here))
      (rows-found-from (end_of start i) (k + 1) is j ws rest bs (marks-next to.interfaces k (k + 1) false bs refl ms) (omega (arith, v)) (omega (arith, w)) x (λ m y e. ap (slice_get s.interfaces) (one-later k m) ∙ at (suc m) y e))
  rows-found-from _ _ _ _ _ (a_world start k is j w ws a later rest) bs ms v y x at =
      let within : j < length s.worlds = omega (arith, x) in
      block-over start (world_end start w) k is bs a.begins (world-marks s to n start j w false a (world-mark s to n apart j within ∙ no-mark (get_or to.worlds j false) refl))
      (rows-found-from (world_end start w) k is (j + 1) ws rest bs ms v y (omega (arith, x)) at)
    where
      no-mark : (b : Bool) → get_or to.worlds j false ≡ b → get_or to.worlds j false ≡ false
      no-mark false e = e
      no-mark true e = absurd (none j e)

  pub rows-found : ArePackageByPackage s.definitions 0 0 s.interfaces 0 s.worlds → (u : ℕ) → u < length s.definitions → get_or to.rows u false ≡ true
      → get_or (row_places s 0 (map (put_interface (renaming to)) (items_where_true to.interfaces s.interfaces)) (marked_places 0 to.interfaces)) (place to.rows u) 0 ≡ u
  rows-found h u l m =
      ap (λ x. get_or (row_places s 0 (map (put_interface (renaming to)) (items_where_true to.interfaces s.interfaces)) (marked_places 0 to.interfaces)) x 0) (less-none (place to.rows u))
      ∙ rows-found-from 0 0 s.interfaces 0 s.worlds h to.interfaces (λ k. ap (λ j. get_or to.interfaces j false) (none-plus k)) (omega arith) (ap length n.interfaces_are ∙ n.count) (omega arith)
      (λ k x e. ap (slice_get s.interfaces) (none-plus k) ∙ e) 0 u (sym (place-none to.rows)) (omega arith) l m
    where
      less-none : (k : ℕ) → k ≡ k - 0
      less-none k = omega arith
