-- Worked examples: lists of steps of a session, and values that stay held.
use Rattle.std.proofs.Common.{◌≡◌, inl, inr, ℕ, true, false, Bool, ◌&&◌, List, [], ◌∷◌, Option, Some, Ok, refl, arith, zero, suc, ◌<◌, None}
use Rattle.std.specs.Prelude.{nat_lt}
use Rattle.canonical_abi.specs.Types.{int8}
use Rattle.canonical_abi.specs.Values.{Value, unsigned_value}
use Rattle.canonical_abi.specs.Reading.{number_at}
use Rattle.canonical_abi.specs.Guest.{Memory, Allocation, Release}
use Rattle.canonical_abi.specs.Trace.{node, write}
use Rattle.canonical_abi.specs.Footprint.{Reads}
use Rattle.canonical_abi.specs.Call.{Parties, CallState, either}
use Rattle.canonical_abi.specs.Session.{Held, SessionStep, place, read, release, SessionAnswer, placed, was_read, released, missing, RunsSession}
use Rattle.canonical_abi.specs.Keeping.{IsLive, LeavesAlone, ReleasesMiss, StaysLive, Throughout}
use Rattle.canonical_abi.specs.Told.{AllocatesInOneWay}
use Rattle.canonical_abi.proofs.Examples.{u8, bool_block}

abbrev seven : Value
seven = unsigned_value int8 7

-- two bytes, of which the first is granted once, and taken back
abbrev bytes : ℕ → Bool → Memory
bytes x live = record { bytes = x ∷ 0 ∷ []; live = λ a. nat_lt a 1 && live; state = [] }

abbrev grants_first : Allocation
grants_first old align size at new = (old ≡ bytes 0 false) × (size ≡ 1) × (at ≡ Some 0) × (new ≡ bytes 0 true)

abbrev takes_first : Release
takes_first old at size taken new = (at ≡ 0) × (taken ≡ true) × (new ≡ record old { live = λ a. nat_lt a 1 && false })

abbrev parties : Parties
parties = record {
  caller_allocates = grants_first;
  callee_allocates = λ old align size at new. ⊥;
  runs = λ s m flats s' m' a. ⊥;
  posts = λ s m flats s' m' a. ⊥;
}

abbrev of_caller : Memory → CallState
of_caller caller = record { caller = caller; callee = bytes 0 false; body = [] }

abbrev held : Held
held = record { ty = u8; at = 0 }

abbrev steps : List SessionStep
steps = place u8 seven ∷ read 0 ∷ read 1 ∷ release 0 1 ∷ []

abbrev answers : List SessionAnswer
answers = placed (Ok held) ∷ was_read (Ok seven) ∷ missing ∷ released true ∷ []

abbrev there : CallState
there = of_caller (bytes 7 true)

-- a value is placed and read; what step 1 placed is missing, as it placed nothing; and the block is given back
placed-and-read : RunsSession parties takes_first either [] (of_caller (bytes 0 false)) steps answers (of_caller (bytes 7 false))
unfolding number_at
placed-and-read = record {
  answer = placed (Ok held);
  rest = _;
  answers_are = refl;
  between = there;
  takes = (
    Ok held,
    refl,
    (
      bool_block,
      node ∷ write 0 (7 ∷ []) ∷ [],
      (refl, refl),
      ((7, omega arith, refl), refl),
      (omega arith, tt),
      (bytes 0 true, ((refl, refl, refl, refl), record { aligned = refl; inside = omega arith }, refl), (bytes 0 true, refl, (bytes 7 true, (omega arith, refl), refl))),
      refl,
    ),
    refl,
    refl,
  );
  others = record {
    answer = was_read (Ok seven);
    rest = _;
    answers_are = refl;
    between = there;
    takes = (refl, (Ok seven, refl, ((refl, omega arith), refl)));
    others = record {
      answer = missing;
      rest = _;
      answers_are = refl;
      between = there;
      takes = (refl, refl);
      others = record {
        answer = released true;
        rest = _;
        answers_are = refl;
        between = of_caller (bytes 7 false);
        takes = (true, refl, (refl, refl, refl), refl, refl);
        others = (refl, refl);
      };
    };
  };
}

-- the value stays live while it is read, and so it stays held
read-once : RunsSession parties takes_first either (placed (Ok held) ∷ []) there (read 0 ∷ []) (was_read (Ok seven) ∷ []) there
unfolding number_at
read-once = record {
  answer = was_read (Ok seven);
  rest = [];
  answers_are = refl;
  between = there;
  takes = (refl, (Ok seven, refl, ((refl, omega arith), refl)));
  others = (refl, refl);
}

still-live : (x : ℕ) → x < 1 → there.caller.live x ≡ true
still-live zero below = refl
still-live (suc x) below = absurd (omega arith)

stays-live : StaysLive parties takes_first either u8 0 seven (placed (Ok held) ∷ []) there (read 0 ∷ []) (was_read (Ok seven) ∷ []) there read-once
unfolding number_at read-once
stays-live = record { holds = ((refl, omega arith), refl); live = ((λ x r. still-live x r.1), (λ x r. still-live x r.1)) }

lives : IsLive (Reads u8 there.caller.bytes 0) there.caller
unfolding number_at
lives = λ x r. still-live x r.1

-- ---- what is not so

-- once its block was given back the bytes are there, but not live
lives-no-more : IsLive (Reads u8 (bytes 7 false).bytes 0) (bytes 7 false) → ⊥
lives-no-more h = let e : false ≡ true = h 0 (omega arith, omega arith) in cc

-- a footprint isn't live throughout a run whose first state has no live address
not-throughout : Throughout parties takes_first either (λ w. IsLive (λ x. x ≡ 0) w.caller) [] (of_caller (bytes 0 false)) steps answers (of_caller (bytes 7 false)) placed-and-read → ⊥
not-throughout live = let e : false ≡ true = live.0 0 refl in cc

-- an allocator that may grant or refuse does not answer in one way
in-two-ways : AllocatesInOneWay (λ old align size at new. new ≡ old) → ⊥
in-two-ways one_way =
    let e : ◌≡◌ {A = Option ℕ} (Some 0) None = (one_way (bytes 0 true) 1 1 (Some 0) None (bytes 0 true) (bytes 0 true) (inl refl) refl refl).0 in cc

-- no step is left out: a run does not end before its last step
one-answer-fewer : (answer : SessionAnswer) (new : CallState) → RunsSession parties takes_first either [] (of_caller (bytes 0 false)) (place u8 seven ∷ read 0 ∷ []) (answer ∷ []) new → ⊥
one-answer-fewer answer new run =
    let first = run.answers_are in
    let second = run.others.answers_are in cc

-- what was placed is not read once its block was given back: the premise of held values fails there
release-hits : ReleasesMiss (λ x. x ≡ 0) (release 0 1 ∷ []) (released true ∷ []) → ⊥
release-hits miss = elim (miss.0 refl 0 refl) [ inl before ↦ absurd (omega arith) | inr behind ↦ absurd (omega arith) ]

-- a release that took nothing back misses
release-misses : ReleasesMiss (λ x. x ≡ 0) (release 0 1 ∷ []) (released false ∷ [])
release-misses = (λ e. cc, tt)

-- a run of a body that writes into a footprint does not leave it alone
body-writes : LeavesAlone (λ x. x ≡ 0) (record { before = bytes 7 true; after = bytes 8 true }) → ⊥
body-writes leaves = let e : ◌≡◌ {A = Option ℕ} (Some 8) (Some 7) = leaves.same 0 refl in cc

-- nor does one that ends its life
body-frees : LeavesAlone (λ x. x ≡ 0) (record { before = bytes 7 true; after = bytes 7 false }) → ⊥
body-frees leaves = let e : false ≡ true = leaves.live 0 refl refl in cc

-- one that changes another byte does
body-elsewhere : LeavesAlone (λ x. x ≡ 0) (record { before = bytes 7 true; after = record (bytes 7 true) { bytes = 7 ∷ 9 ∷ [] } })
body-elsewhere = record { no_shorter = omega arith; same = λ x is. rw is refl; live = λ x is live. live }
