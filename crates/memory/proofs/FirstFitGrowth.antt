-- How a first-fit memory grows: what its last hole comes to have, and that no other hole changes.
use Rattle.std.proofs.Common.{◌≡◌, inl, inr, ◌+◌, ◌*◌, ◌/◌, ◌%◌, ◌<◌, ◌≤◌, ◌&&◌, ◌||◌, not, ℕ, zero, suc, Bool, true, false, List, [], ◌∷◌, length, Option, Some, None, refl, sym, ap, ◌∙◌, subst, arith}
use Rattle.std.specs.Prelude.{nat_lt}
use Rattle.std.specs.Option.{ok_or}
use Rattle.std.specs.Result.{result_ok, OnErr}
use Rattle.std.proofs.lemmas.List.{append-nil}
use Rattle.std.proofs.lemmas.Bool.Decides.{nat_tests}
use Rattle.std.proofs.lemmas.Bool.{cases_lt}
use mathlib.Core.Path.{fun_ext}
use Rattle.canonical_abi.specs.Guest.{Memory, rounded_to_eight}
use Rattle.canonical_abi.specs.declared.guest.Full.{Full}
use Rattle.memory.specs.FirstFit.{usable, IsHole, IsFirstWith, TakesBlock, HasRoomGrown, FirstFitAllocates}
use Rattle.memory.specs.Growth.{with_pages, grown, IsLeastGrowth, HasNoGrowth, ReachesEnd}
use Rattle.memory.specs.GrowthLaws.{length-with_pages}
use Rattle.memory.specs.Holes.{Hole, in_holes, AreHolesApart, AreShort, IsTail, TakesFront, GivesHoleBack, first_fit}
use Rattle.memory.proofs.FirstFitSteps.{all_short, taken}

-- a memory that grows by no page is as it was
grown_none : (bytes : List ℕ) (max limit : ℕ) (holes : List Hole) → grown (first_fit bytes max limit holes) 0 ≡ first_fit bytes max limit holes
grown_none bytes max limit holes = ap (λ bs. first_fit bs max limit holes) (append-nil bytes)

-- where holes come to hold what growth adds, the memory is the grown one
lengthened : (bytes : List ℕ) (max limit pages to : ℕ) (holes new : List Hole) → limit ≤ to → GivesHoleBack holes limit to true new
    → first_fit (with_pages bytes pages) max to new ≡ grown (first_fit bytes max limit holes) pages
lengthened bytes max limit pages to holes new more (clear, back) =
    let same : (a : ℕ) → (nat_lt a to && not (in_holes new a)) ≡ (nat_lt a limit && not (in_holes holes a)) = λ a. (let is = back a in grind (arith, nat_tests)) in
    let with_live : (ℕ → Bool) → Memory = λ live. record { bytes = with_pages bytes pages; live = live; state = max ∷ [] } in
    ap with_live (fun_ext same)

module _ (bytes : List ℕ) (max limit : ℕ) (holes : List Hole) (all : limit ≡ length bytes / 8 * 8) (apart : AreHolesApart 0 holes limit) (n : ℕ) (some : 0 < n) where
  -- ---- a hole has room as it is

  pub here : (align size at : ℕ) (new : List Hole) → 0 < size → n ≡ rounded_to_eight size → length bytes ≤ max → max ≤ 16777216 → TakesFront holes n (Some at) new
      → FirstFitAllocates (first_fit bytes max limit holes) align size (Some at) (first_fit bytes max limit new)
  here align size at new asked is within few takes =
      let m = first_fit bytes max limit holes in
      let front = taken bytes max limit holes all apart n at new takes in
      let same : m ≡ grown m 0 = sym (grown_none bytes max limit holes) in
      let there : IsFirstWith (grown m 0) n at front.0 = subst (λ k. IsFirstWith k n at front.0) same front.1 in
      let takes_there : TakesBlock (grown m 0) at n (first_fit bytes max limit new) = subst (λ k. TakesBlock k at n (first_fit bytes max limit new)) same front.2 in
      rw (← is) (inr (
        asked,
        max,
        0,
        front.0,
        refl,
        few,
        record { within = omega arith; enough = (at, front.0, there.hole, there.enough); least = λ p less h. absurd (omega arith) },
        there,
        takes_there,
      ))

  -- ---- no hole has

  module _ (tail : ℕ) (ends : IsTail holes limit tail) (units : n % 8 ≡ 0) (short : AreShort holes (length holes) n) where
    past_tail : (a : ℕ) → tail ≤ a → (first_fit bytes max limit holes).live a ≡ false
    past_tail a from = elim (cases_lt a limit) [
      | inl below ↦ (let is = ends.free a from below in grind (arith, nat_tests))
      | inr past ↦ grind (arith, nat_tests)
    ]

    before_tail : (a : ℕ) → suc a ≡ tail → (first_fit bytes max limit holes).live a ≡ true
    before_tail a is = let out = ends.begins a is in let most = ends.inside in let below : a < limit = omega arith in grind (arith, nat_tests)

    usable_grown : (pages : ℕ) → usable (grown (first_fit bytes max limit holes) pages) ≡ limit + pages * 65536
    usable_grown pages = omega (arith, length-with_pages bytes pages)

    -- a hole before the last one is one of the memory as it was
    is_old : (pages s e t : ℕ) → suc t ≡ tail → s ≤ t → IsHole (grown (first_fit bytes max limit holes) pages) s e → IsHole (first_fit bytes max limit holes) s e
    is_old pages s e t is from h =
        let ends_before : e ≤ t = elim (cases_lt t e) [
          | inl past ↦ (let free : (first_fit bytes max limit holes).live t ≡ false = h.free t from past in let live = before_tail t is in absurd (cc))
          | inr le ↦ le
        ] in
        let most = ends.inside in
        let longer = usable_grown pages in
        record {
          some = h.some;
          inside = omega arith;
          free = h.free;
          begins = h.begins;
          ends = λ below. h.ends (omega arith);
        }

    still_short : (pages s e : ℕ) → IsHole (grown (first_fit bytes max limit holes) pages) s e → s < tail → e < s + n
    still_short pages s e h before = past tail refl
      where
        past : (t : ℕ) → t ≡ tail → e < s + n
        past zero is = absurd (omega arith)
        past (suc t) is = all_short bytes max limit holes all apart n short s e (is_old pages s e t is (omega arith) h)

    -- the last hole has what growth adds
    last : (pages : ℕ) → ReachesEnd (length bytes) (tail + n) pages → IsFirstWith (grown (first_fit bytes max limit holes) pages) n tail (limit + pages * 65536)
    last pages reaches =
        let unit = ends.unit in
        let longer = usable_grown pages in
        let room : tail + n ≤ limit + pages * 65536 = omega arith in
        record {
          hole = record {
            some = omega arith;
            inside = omega arith;
            free = λ a from to. past_tail a from;
            begins = before_tail;
            ends = λ below. absurd (omega arith);
          };
          unit = unit;
          enough = room;
          first = λ s e h before. still_short pages s e h before;
        }

    has_room : (pages : ℕ) → ReachesEnd (length bytes) (tail + n) pages → HasRoomGrown (first_fit bytes max limit holes) n pages
    has_room pages reaches = let l = last pages reaches in (tail, limit + pages * 65536, l.hole, l.enough)

    room_is_last : (pages : ℕ) → HasRoomGrown (first_fit bytes max limit holes) n pages → ReachesEnd (length bytes) (tail + n) pages
    room_is_last pages (s, e, h, room) = elim (cases_lt s tail) [
      | inl before ↦ (let less = still_short pages s e h before in absurd (omega arith))
      | inr behind ↦ (let longer = usable_grown pages in let inside = h.inside in omega arith)
    ]

    least_growth : (pages : ℕ) → IsLeastGrowth (length bytes) max (ReachesEnd (length bytes) (tail + n)) pages → IsLeastGrowth (length bytes) max (HasRoomGrown (first_fit bytes max limit holes) n) pages
    least_growth pages g = record {
      within = g.within;
      enough = has_room pages g.enough;
      least = λ fewer less h. g.least fewer less (room_is_last fewer h);
    }

    -- the block was not there before
    pub grows_longer : (pages : ℕ) → ReachesEnd (length bytes) (tail + n) pages → 0 < pages
    grows_longer zero reaches =
        let l = subst (λ k. IsFirstWith k n tail (limit + 0 * 65536)) (grown_none bytes max limit holes) (last 0 reaches) in
        let less = all_short bytes max limit holes all apart n short tail (limit + 0 * 65536) l.hole in
        let room = l.enough in
        absurd (omega arith)
    grows_longer (suc pages) reaches = omega arith

    pub is_full : (align size : ℕ) (new : List Hole) → 0 < size → n ≡ rounded_to_eight size → new ≡ holes → HasNoGrowth (length bytes) max (ReachesEnd (length bytes) (tail + n))
        → FirstFitAllocates (first_fit bytes max limit holes) align size None (first_fit bytes max limit new)
    is_full align size new asked is same none =
        rw (← is, same) (asked, max, refl, (λ pages within h. none pages within (room_is_last pages h)), refl)

    -- the front of the last hole is taken, once it is longer
    behind : (align size at to pages : ℕ) (longer new : List Hole) → 0 < size → n ≡ rounded_to_eight size → max ≤ 16777216
        → IsLeastGrowth (length bytes) max (ReachesEnd (length bytes) (tail + n)) pages → to ≡ limit + pages * 65536 → AreHolesApart 0 longer to
        → GivesHoleBack holes limit to true longer → TakesFront longer n (Some at) new
        → FirstFitAllocates (first_fit bytes max limit holes) align size (Some at) (first_fit (with_pages bytes pages) max to new)
    behind align size at to pages longer new asked is few growth to_is far gives takes =
        let m = first_fit bytes max limit holes in
        let same : first_fit (with_pages bytes pages) max to longer ≡ grown m pages = lengthened bytes max limit pages to holes longer (omega arith) gives in
        let whole : to ≡ length (with_pages bytes pages) / 8 * 8 = omega (arith, length-with_pages bytes pages) in
        let front = taken (with_pages bytes pages) max to longer whole far n at new takes in
        rw (← is) (inr (
          asked,
          max,
          pages,
          front.0,
          refl,
          few,
          least_growth pages growth,
          subst (λ k. IsFirstWith k n at front.0) same front.1,
          subst (λ k. TakesBlock k at n (first_fit (with_pages bytes pages) max to new)) same front.2,
        ))

    never_short : (to pages : ℕ) (longer : List Hole) → IsLeastGrowth (length bytes) max (ReachesEnd (length bytes) (tail + n)) pages → to ≡ limit + pages * 65536
        → AreHolesApart 0 longer to → GivesHoleBack holes limit to true longer → AreShort longer (length longer) n → ⊥
    never_short to pages longer growth to_is far gives none =
        let m = first_fit bytes max limit holes in
        let same : first_fit (with_pages bytes pages) max to longer ≡ grown m pages = lengthened bytes max limit pages to holes longer (omega arith) gives in
        let whole : to ≡ length (with_pages bytes pages) / 8 * 8 = omega (arith, length-with_pages bytes pages) in
        let l = subst (λ k. IsFirstWith k n tail (limit + pages * 65536)) (sym same) (last pages growth.enough) in
        let less = all_short (with_pages bytes pages) max to longer whole far n none tail (limit + pages * 65536) l.hole in
        let room = l.enough in
        omega arith

    -- the same for either answer
    pub answered : (align size to pages : ℕ) (longer new : List Hole) (answer : Option ℕ) (full : Full) → 0 < size → n ≡ rounded_to_eight size → max ≤ 16777216
        → IsLeastGrowth (length bytes) max (ReachesEnd (length bytes) (tail + n)) pages → to ≡ limit + pages * 65536 → AreHolesApart 0 longer to
        → GivesHoleBack holes limit to true longer → TakesFront longer n answer new
        → FirstFitAllocates (first_fit bytes max limit holes) align size (result_ok (ok_or answer full)) (first_fit (with_pages bytes pages) max to new)
    answered align size to pages longer new (Some at) full asked is few growth to_is far gives takes = behind align size at to pages longer new asked is few growth to_is far gives takes
    answered align size to pages longer new None full asked is few growth to_is far gives (none, same) = absurd (never_short to pages longer growth to_is far gives none)

    -- so it is never refused then
    pub never_refused : (to pages : ℕ) (longer new : List Hole) (answer : Option ℕ) (full : Full) (P : Type 0) → IsLeastGrowth (length bytes) max (ReachesEnd (length bytes) (tail + n)) pages
        → to ≡ limit + pages * 65536 → AreHolesApart 0 longer to → GivesHoleBack holes limit to true longer → TakesFront longer n answer new → OnErr (ok_or answer full) P
    never_refused to pages longer new (Some at) full P growth to_is far gives takes = tt
    never_refused to pages longer new None full P growth to_is far gives (none, same) = absurd (never_short to pages longer growth to_is far gives none)
