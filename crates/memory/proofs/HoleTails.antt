-- Where the last hole begins, and what a limit that moves on adds to the holes.
use Rattle.std.proofs.Common.{◌≡◌, ◌≢◌, ◌+◌, ◌*◌, ◌<◌, ◌≤◌, ℕ, suc, Bool, true, false, List, [], ◌∷◌, length, get_or, refl, ◌∙◌, arith, inl, inr}
use Rattle.std.proofs.lemmas.Bool.{cases_lt}
use Rattle.memory.specs.Holes.{Hole, in_holes, AreHolesApart, IsTail, GivesHoleBack, start_of, hole_end, holes_of}
use Rattle.memory.proofs.HoleLists.{above_holes, end_above, holes_rise, ends_rise, in_its_hole, before_hole, lies_in}
use Rattle.memory.proofs.HoleRows.{rank, rank_same, rank_past, begins, starts_from, ends_inside}

-- ---- a limit that moves on

pub higher : (low : ℕ) (holes : List Hole) (high above : ℕ) → AreHolesApart low holes high → high ≤ above → AreHolesApart low holes above
higher low [] high above h le = tt
higher low (hole ∷ holes) high above h le = (h.0, h.1, omega (arith, h.2), h.3, h.4, higher (hole.end + 1) holes high above h.5 le)

-- nothing past the limit lies in a hole, so it all comes
pub all_given : (old new : List Hole) (limit to : ℕ) (answer : Bool) → AreHolesApart 0 old limit → GivesHoleBack old limit to answer new → GivesHoleBack old limit to true new
all_given old new limit to true apart gives = gives
all_given old new limit to false apart ((a, from, below, is), same) = let out = above_holes 0 old limit a apart from in absurd (cc)

-- ---- the last hole

module _ (row : List ℕ) (limit end : ℕ) (apart : AreHolesApart 0 (holes_of 0 row) limit) (stop : limit ≡ 8 * end) where
  -- there is no hole behind those that begin before the limit
  none_behind : (i : ℕ) → rank end row ≤ i → i < length (holes_of 0 row) → limit ≤ start_of (holes_of 0 row) i
  none_behind i least below =
      let first : rank end row < length (holes_of 0 row) = omega arith in
      let from = starts_from end 0 row first in
      elim (cases_lt (rank end row) i) [
        | inl more ↦
            let rise = holes_rise (rank end row) i 0 (holes_of 0 row) limit apart more below in
            let some = end_above (rank end row) 0 (holes_of 0 row) limit apart first in
            omega arith
        | inr le ↦ (let is : i ≡ rank end row = omega arith in rw is (omega arith))
      ]

  no_tail : (count : ℕ) → rank end row ≡ count → ((k : ℕ) → k < count → hole_end (holes_of 0 row) k < limit) → IsTail (holes_of 0 row) limit limit
  no_tail count is before = record {
    inside = omega arith;
    unit = omega arith;
    free = λ a from to. absurd (omega arith);
    begins = λ a next. not_in a next (in_holes (holes_of 0 row) a) refl;
  }
    where
      not_in : (a : ℕ) → suc a ≡ limit → (held : Bool) → in_holes (holes_of 0 row) a ≡ held → in_holes (holes_of 0 row) a ≡ false
      not_in a next false out = out
      not_in a next true inside =
          let l = lies_in (holes_of 0 row) a inside in
          elim (cases_lt l.i count) [
            | inl earlier ↦ (let e = before l.i earlier in let t = l.to in absurd (omega arith))
            | inr later ↦ (let past = none_behind l.i (omega arith) l.below in let f = l.from in absurd (omega arith))
          ]

  -- no hole begins before the limit
  pub tail_of_none : ((k : ℕ) → k < end → get_or row k 0 ≡ 0) → IsTail (holes_of 0 row) limit limit
  tail_of_none none = no_tail 0 (rank_same 0 end row (omega arith) (λ k a b. none k b)) (λ k less. absurd (omega arith))

  -- the last one that does ends before it
  pub tail_of_other : (p : ℕ) → 0 < get_or row p 0 → p < end → p + get_or row p 0 ≢ end → ((k : ℕ) → p < k → k < end → get_or row k 0 ≡ 0) → IsTail (holes_of 0 row) limit limit
  tail_of_other p held less apart_from none =
      no_tail (suc (rank p row)) (rank_same (suc p) end row (omega arith) (λ k a b. none k (omega arith) b) ∙ rank_past p row held) before
    where
      before : (k : ℕ) → k < suc (rank p row) → hole_end (holes_of 0 row) k < limit
      before k less =
          let b = begins p 0 row held in
          let most = ends_inside row limit p apart held in
          let ends : hole_end (holes_of 0 row) (rank p row) < limit = omega (arith, b.ends) in
          elim (cases_lt k (rank p row)) [
            | inl earlier ↦ (let rise = ends_rise 0 (holes_of 0 row) limit apart k (rank p row) earlier b.below in omega arith)
            | inr last ↦ (let is : k ≡ rank p row = omega arith in rw is ends)
          ]

  -- or at it
  pub tail_of_last : (p tail : ℕ) → 0 < get_or row p 0 → p + get_or row p 0 ≡ end → tail ≡ 8 * p → IsTail (holes_of 0 row) limit tail
  tail_of_last p tail held ends is =
      let b = begins p 0 row held in
      record {
        inside = omega arith;
        unit = omega arith;
        free = λ a from to. in_its_hole (rank p row) (holes_of 0 row) a b.below (omega (arith, b.starts)) (omega (arith, b.ends));
        begins = λ a next. before_hole (rank p row) 0 (holes_of 0 row) limit a apart b.below (omega (arith, b.starts));
      }
