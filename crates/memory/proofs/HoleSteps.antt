-- Taking from the first hole and giving back, as changes of the row that stands for the holes.
use Rattle.std.proofs.Common.{◌≡◌, ◌+◌, ◌-◌, ◌*◌, ◌%◌, ◌<◌, ◌≤◌, ℕ, suc, List, length, set, get_or, Some, None, true, refl, sym, ap, ◌∙◌, arith, inl, inr}
use Rattle.std.specs.Prelude.{remove, insert}
use Rattle.std.proofs.lemmas.List.{length-set, set-get_or}
use Rattle.std.proofs.lemmas.Bool.{cases_lt}
use Rattle.memory.specs.Holes.{Hole, in_holes, AreHolesApart, AreShort, start_of, hole_end, TakesFront, holes_of, opened}
use Rattle.memory.proofs.HoleLists.{end_above, ends_rise, take_front, take_whole, apart_front, apart_without}
use Rattle.memory.proofs.HolesGivenBack.{IsGiven, meets, given_alone, given_left, given_right, given_both}
use Rattle.memory.proofs.HoleRows.{rank, rank_all, rank_within, rank_same, rank_past, begins, starts_from, are_short, none_inside, ends_inside, cleared, filled, changed, front_taken, front_given, joined}

-- ---- taking

-- the holes are apart again, and the front of one is taken
pub record IsTaken (old : List Hole) (limit size at : ℕ) (new : List Hole) : Type 0 where
  pub apart : AreHolesApart 0 new limit
  pub front : TakesFront old size (Some at) new

front_whole : (holes : List Hole) (limit size at i : ℕ) → AreHolesApart 0 holes limit → i < length holes → AreShort holes i size → at ≡ start_of holes i → start_of holes i + size ≡ hole_end holes i
    → IsTaken holes limit size at (remove holes i)
front_whole holes limit size at i apart below short is all = record {
  apart = apart_without i 0 holes limit apart below;
  front = rw is (i, below, refl, omega arith, short, λ a. take_whole i 0 holes limit size a apart below all);
}

front_part : (holes : List Hole) (limit size at i : ℕ) → AreHolesApart 0 holes limit → i < length holes → AreShort holes i size → at ≡ start_of holes i → size % 8 ≡ 0 → start_of holes i + size < hole_end holes i
    → IsTaken holes limit size at (set holes i (record { start = start_of holes i + size; end = hole_end holes i }))
front_part holes limit size at i apart below short is units more = record {
  apart = apart_front i 0 holes limit size apart below units more;
  front = rw is (i, below, refl, omega arith, short, λ a. take_front i 0 holes limit size a apart below (omega arith));
}

-- the first hole of so many units is taken whole
pub taken_whole : (row : List ℕ) (limit n v size at : ℕ) → AreHolesApart 0 (holes_of 0 row) limit → 0 < n → get_or row v 0 ≡ n → ((k : ℕ) → k < v → get_or row k 0 < n) → size ≡ 8 * n → at ≡ 8 * v
    → IsTaken (holes_of 0 row) limit size at (holes_of 0 (set row v 0))
taken_whole row limit n v size at apart some is few s a =
    let held : 0 < get_or row v 0 = omega arith in
    let b = begins v 0 row held in
    rw (cleared v 0 row held) (front_whole (holes_of 0 row) limit size at (rank v row) apart b.below (λ k less. (let short = are_short v 0 n row k few less in omega arith)) (omega (arith, b.starts)) (omega (arith, b.starts, b.ends)))

-- of a longer one the front
pub taken_front : (row : List ℕ) (limit n v size at : ℕ) → AreHolesApart 0 (holes_of 0 row) limit → limit ≤ 8 * length row → 0 < n → n < get_or row v 0 → ((k : ℕ) → k < v → get_or row k 0 < n) → size ≡ 8 * n → at ≡ 8 * v
    → IsTaken (holes_of 0 row) limit size at (holes_of 0 (set (set row v 0) (v + n) (get_or row v 0 - n)))
taken_front row limit n v size at apart room some more few s a =
    let held : 0 < get_or row v 0 = omega arith in
    let b = begins v 0 row held in
    let most = ends_inside row limit v apart held in
    let i = rank v row in
    let moved = front_taken v (v + n) (get_or row v 0 - n) (start_of (holes_of 0 row) i + size) (hole_end (holes_of 0 row) i) row (omega arith) held (omega arith) (omega arith)
    (λ k past to. none_inside row limit v k apart held past (omega arith)) (omega (arith, b.starts)) (omega (arith, b.ends)) in
    rw moved (front_part (holes_of 0 row) limit size at i apart b.below (λ k less. (let short = are_short v 0 n row k few less in omega arith)) (omega (arith, b.starts)) (omega arith) (omega (arith, b.starts, b.ends)))

-- there is none
pub none_taken : (row : List ℕ) (n size : ℕ) → ((k : ℕ) → k < length row → get_or row k 0 < n) → size ≡ 8 * n → TakesFront (holes_of 0 row) size None (holes_of 0 row)
none_taken row n size few s = (λ k less. (let short = are_short (length row) 0 n row k few (rw (rank_all 0 row) less) in omega arith), refl)

-- ---- giving back

same_row : (row : List ℕ) (v : ℕ) → get_or row v 0 ≡ 0 → set row v 0 ≡ row
same_row row v none = ap (set row v) (sym none) ∙ set-get_or row v 0

pub length-opened : (row : List ℕ) (at end : ℕ) → length (opened row at end) ≡ length row
length-opened row at end = length-set (set row end 0) at (end - at + get_or row end 0) ∙ length-set row end 0

-- what is opened is no longer than the memory
pub small_run : (row : List ℕ) (limit at end : ℕ) → AreHolesApart 0 (holes_of 0 row) limit → limit ≤ 16777216 → 8 * end ≤ limit → end - at + get_or row end 0 < 4294967296
small_run row limit at end apart limited most = elim (cases_lt 0 (get_or row end 0)) [
  | inl some ↦ omega (arith, ends_inside row limit end apart some)
  | inr none ↦ omega arith
]

module _ (row : List ℕ) (limit start end from to : ℕ) (apart : AreHolesApart 0 (holes_of 0 row) limit) (begin : from ≡ 8 * start) (stop : to ≡ 8 * end)
    (some : start < end) (most : to ≤ limit) (room : limit ≤ 8 * length row) where
  -- a hole of its own, or joined to the one behind
  pub given_apart : ((k : ℕ) → start ≤ k → k < end → get_or row k 0 ≡ 0) → ((k : ℕ) → k < rank start row → hole_end (holes_of 0 row) k < from) → IsGiven (holes_of 0 row) limit from to (holes_of 0 (opened row start end))
  given_apart none before = elim (cases_lt 0 (get_or row end 0)) [ inl behind ↦ right behind | inr free ↦ alone (omega arith) ]
    where
      alone : get_or row end 0 ≡ 0 → IsGiven (holes_of 0 row) limit from to (holes_of 0 (opened row start end))
      alone free =
          let same : rank (suc end) row ≡ rank start row = rank_same start (suc end) row (omega arith) (λ k a b. elim (cases_lt k end) [ inl less ↦ none k a less | inr past ↦ (let is : k ≡ end = omega arith in rw is free) ]) in
          let new : holes_of 0 (opened row start end) ≡ insert (holes_of 0 row) (rank start row) (record { start = from; end = to }) =
          ap (λ r. holes_of 0 (set r start (end - start + get_or row end 0))) (same_row row end free)
          ∙ filled start 0 (end - start + get_or row end 0) from to row (omega arith) (omega arith) (none start (omega arith) some) (omega arith) (omega arith) in
          rw new (given_alone (rank start row) (holes_of 0 row) limit from to apart (omega arith) most (omega arith) (omega arith) (rank_within start 0 row) before
          (λ less. (let far = rw same at (starts_from (suc end) 0 row (rw same less)) in omega arith)))

      right : 0 < get_or row end 0 → IsGiven (holes_of 0 row) limit from to (holes_of 0 (opened row start end))
      right behind =
          let same : rank end row ≡ rank start row = rank_same start end row (omega arith) none in
          let b = rw same at (begins end 0 row behind).below in
          let starts = rw same at (begins end 0 row behind).starts in
          let ends = rw same at (begins end 0 row behind).ends in
          rw (front_given start end (end - start + get_or row end 0) from (hole_end (holes_of 0 row) (rank start row)) row (omega arith) behind some none (omega arith) begin (omega arith))
          (given_right (rank start row) (holes_of 0 row) limit from to apart (omega arith) (omega arith) b before (omega arith))

  -- joined to the hole before, and to the one behind
  pub given_joined : (p : ℕ) → 0 < get_or row p 0 → p + get_or row p 0 ≡ start → ((k : ℕ) → p < k → k < end → get_or row k 0 ≡ 0) → IsGiven (holes_of 0 row) limit from to (holes_of 0 (opened row p end))
  given_joined p held meet none = elim (cases_lt 0 (get_or row end 0)) [ inl behind ↦ both behind | inr free ↦ left (omega arith) ]
    where
      left : get_or row end 0 ≡ 0 → IsGiven (holes_of 0 row) limit from to (holes_of 0 (opened row p end))
      left free =
          let b = begins p 0 row held in
          let same : rank (suc end) row ≡ suc (rank p row) = rank_same (suc p) (suc end) row (omega arith) (λ k a c. elim (cases_lt k end) [ inl less ↦ none k (omega arith) less | inr past ↦ (let is : k ≡ end = omega arith in rw is free) ]) ∙ rank_past p row held in
          let new : holes_of 0 (opened row p end) ≡ set (holes_of 0 row) (rank p row) (record { start = start_of (holes_of 0 row) (rank p row); end = to }) =
          ap (λ r. holes_of 0 (set r p (end - p + get_or row end 0))) (same_row row end free)
          ∙ changed p 0 (end - p + get_or row end 0) (start_of (holes_of 0 row) (rank p row)) to row (omega arith) held b.starts (omega arith) in
          rw new (given_left (rank p row) (holes_of 0 row) limit from to apart (omega arith) most (omega arith) b.below (omega (arith, b.ends))
          (λ less. (let far = rw same at (starts_from (suc end) 0 row (rw same less)) in omega arith)))

      both : 0 < get_or row end 0 → IsGiven (holes_of 0 row) limit from to (holes_of 0 (opened row p end))
      both behind =
          let b = begins p 0 row held in
          let same : rank end row ≡ suc (rank p row) = rank_same (suc p) end row (omega arith) (λ k a c. none k (omega arith) c) ∙ rank_past p row held in
          let below = rw same at (begins end 0 row behind).below in
          let starts = rw same at (begins end 0 row behind).starts in
          let ends = rw same at (begins end 0 row behind).ends in
          rw (joined p end (end - p + get_or row end 0) (start_of (holes_of 0 row) (rank p row)) (hole_end (holes_of 0 row) (suc (rank p row))) row (omega arith) held behind (omega arith) none (omega (arith, b.starts)) (omega arith))
          (given_both (rank p row) (holes_of 0 row) limit from to apart below (omega (arith, b.ends)) (omega arith))

  -- no hole begins before the end
  pub given_first : ((k : ℕ) → k < end → get_or row k 0 ≡ 0) → IsGiven (holes_of 0 row) limit from to (holes_of 0 (opened row start end))
  given_first none = given_apart (λ k a b. none k b) (λ k less. (let same = rank_same 0 start row (omega arith) (λ j a b. none j (omega arith)) in absurd (omega arith)))

  -- the last one that does ends before the start
  pub given_after : (p : ℕ) → 0 < get_or row p 0 → p + get_or row p 0 < start → ((k : ℕ) → p < k → k < end → get_or row k 0 ≡ 0) → IsGiven (holes_of 0 row) limit from to (holes_of 0 (opened row start end))
  given_after p held past none = given_apart (λ k a b. none k (omega arith) b) before
    where
      before : (k : ℕ) → k < rank start row → hole_end (holes_of 0 row) k < from
      before k less =
          let b = begins p 0 row held in
          let same : rank start row ≡ suc (rank p row) = rank_same (suc p) start row (omega arith) (λ j a c. none j (omega arith) (omega arith)) ∙ rank_past p row held in
          elim (cases_lt k (rank p row)) [
            | inl earlier ↦ omega (arith, b.ends, ends_rise 0 (holes_of 0 row) limit apart k (rank p row) earlier b.below)
            | inr last ↦ (let is : k ≡ rank p row = omega arith in rw is (omega (arith, b.ends)))
          ]

  -- or behind it
  pub not_given : (p : ℕ) → 0 < get_or row p 0 → p < end → start < p + get_or row p 0 → (a : ℕ) × (from ≤ a) × (a < to) × (in_holes (holes_of 0 row) a ≡ true)
  not_given p held less past =
      let b = begins p 0 row held in
      meets (rank p row) (holes_of 0 row) from to b.below (end_above (rank p row) 0 (holes_of 0 row) limit apart b.below) (omega (arith, b.starts)) (omega (arith, b.ends)) (omega arith)
