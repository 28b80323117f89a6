-- Worked examples: what the promise says of a call, and what it does not let stand.
use Rattle.std.proofs.Common.{◌≡◌, inl, inr, ℕ, ◌%◌, false, true, List, [], ◌∷◌, Option, None, Some, Ok, Err, refl, ◌∙◌, arith}
use Rattle.std.specs.Prelude.{nat_lt}
use Rattle.std.specs.Str.{is_utf8, chars}
use Rattle.std.specs.Char.{encode_utf8}
use Rattle.std.proofs.lemmas.Bool.{lt-ltb}
use Rattle.canonical_abi.specs.Types.{int32, string_type, no_field, field, FunctionType}
use Rattle.canonical_abi.specs.Values.{Value, unsigned_value, string_value}
use Rattle.canonical_abi.specs.Reading.{low_bits}
use Rattle.canonical_abi.specs.Guest.{Memory, Allocation, Release, IsAlignment, IsGrant, IsHonest}
use Rattle.canonical_abi.specs.Trace.{Grant, node, grant, write}
use Rattle.canonical_abi.specs.Call.{Parties, CallState, exact, Completes}
use Rattle.canonical_abi.specs.Headline.{AreHonest, IsStandardFunction, IsPosted, AfterRun, RunsOnce, KeepsPromise, LinkKeepsPromise}
use Rattle.canonical_abi.specs.declared.flat.Flat.{Flat}
use Rattle.canonical_abi.specs.declared.flat.Flat.TheVariants.{I32}
use Rattle.canonical_abi.specs.declared.trap.Fault.TheVariants.{Trap, NoMemory}
use Rattle.canonical_abi.specs.declared.trap.TrapKind.{TrapKind}
use Rattle.canonical_abi.specs.declared.trap.Step.TheVariants as step
use Rattle.canonical_abi.proofs.CallExamples.{answering, f, empty, f-of-7, f-typed}
use Rattle.canonical_abi.proofs.Calls.LinkKeepsPromise.{link-keeps-promise}
use Rattle.canonical_abi.proofs.Calls.CallKeepsPromise.{keeps-promise}

abbrev parties : Parties
parties = answering (I32 7 ∷ []) (I32 8 ∷ [])

-- nothing is granted, and nothing is taken back
abbrev nothing : Release
nothing old at size taken new = ⊥

honest : AreHonest parties nothing nothing
honest =
    let guest : IsHonest parties.caller_allocates nothing = record {
      granted = λ old align size at new is step. absurd step;
      full = λ old align size new step. absurd step;
      taken = λ old at size new step. absurd step;
      not_taken = λ old at size new step. absurd step;
    } in
    record { caller = guest; callee = guest }

standard : IsStandardFunction f
standard = record { params = (tt, tt); result = (tt, tt) }

-- the promise of the call of 7, which answers 8
f-is-promised : KeepsPromise parties exact f (unsigned_value int32 7 ∷ []) empty (Ok (Some (unsigned_value int32 8))) empty
f-is-promised = keeps-promise parties nothing nothing exact f _ empty _ empty standard f-typed honest

f-link-is-promised : LinkKeepsPromise parties exact f (I32 7 ∷ []) empty (Ok (I32 8 ∷ [])) empty
f-link-is-promised = link-keeps-promise parties nothing nothing exact f _ empty _ _ empty standard f-of-7 honest (λ kinds stands x w. absurd (omega (arith, w.0, w.1)))

-- ---- a call with a text, into a callee that grants the two bytes which it has

abbrev say : FunctionType
say = record { params = field string_type no_field; result = None }

abbrev hi : List ℕ
hi = 0x68 ∷ 0x69 ∷ []

abbrev room : Memory
room = record { bytes = 0 ∷ 0 ∷ []; live = λ a. false; state = [] }

abbrev filled : List ℕ → Memory
filled bytes = record { bytes = bytes; live = λ a. nat_lt a 2; state = [] }

abbrev grants_room : Allocation
grants_room old align size at new = (old ≡ room) × (size ≡ 2) × (at ≡ Some 0) × (new ≡ filled (0 ∷ 0 ∷ []))

abbrev heard : Parties
heard = record (answering (I32 0 ∷ I32 2 ∷ []) []) { callee_allocates = grants_room }

zero-aligned : (align : ℕ) → IsAlignment align → 0 % align ≡ 0
zero-aligned align (inl is) = rw is refl
zero-aligned align (inr (inl is)) = rw is refl
zero-aligned align (inr (inr (inl is))) = rw is refl
zero-aligned align (inr (inr (inr is))) = rw is refl

room-granted : (align : ℕ) → IsAlignment align → IsGrant room align 2 0 (filled (0 ∷ 0 ∷ []))
room-granted align is = record {
  aligned = zero-aligned align is;
  inside = omega arith;
  was_free = λ a w. refl;
  is_live = λ a w. lt-ltb a 2 w.1;
  stays_live = λ a live. let e : false ≡ true = live in cc;
  same_outside = λ a below o. refl;
  added = λ a past below o. absurd (omega (arith, past, below));
}

room-is-honest : IsHonest grants_room nothing
room-is-honest = record {
  granted = λ old align size at new is step.
      let zero : at ≡ 0 = given at 0 step.2 in
      rw (step.0, step.1, zero, step.3) (room-granted align is);
  full = λ old align size new step. absurd (none step.2);
  taken = λ old at size new step. absurd step;
  not_taken = λ old at size new step. absurd step;
}
  where
    given : (x y : ℕ) → ◌≡◌ {A = Option ℕ} (Some x) (Some y) → x ≡ y
    given x y e = cc

    none : ◌≡◌ {A = Option ℕ} None (Some 0) → ⊥
    none e = absurd (cc)

abbrev saying : Memory → CallState
saying callee = record { caller = record { bytes = hi; live = λ a. false; state = [] }; callee = callee; body = [] }

abbrev hi_block : Grant
hi_block = record { align = 1; size = 2; at = 0; contents = 0 ∷ 0 ∷ [] }

say-hi : Completes heard say (I32 0 ∷ I32 2 ∷ []) (saying room) [] (record { there = node ∷ grant hi_block ∷ write 0 hi ∷ []; back = [] }) (saying (filled hi))
unfolding low_bits is_utf8 chars encode_utf8
say-hi = record {
  answer = [];
  returned = saying (filled hi);
  returns = record {
    values = [];
    answered = saying (filled hi);
    answers = record {
      values = string_value hi ∷ [];
      handed = I32 0 ∷ I32 2 ∷ [];
      entered = saying (filled hi);
      enters = record {
        kinds = refl;
        denoted = (refl, inl (refl, (string_value hi, [], refl, (omega arith, refl, refl), refl)));
        passes = inl (
          refl,
          (string_value hi, [], node ∷ grant hi_block ∷ write 0 hi ∷ [], [], I32 0 ∷ I32 2 ∷ [], [], refl, refl, refl, (hi, hi_block, refl, refl, (refl, refl), refl, refl), (refl, refl, refl)),
        );
        leads = (room, refl, (filled (0 ∷ 0 ∷ []), ((refl, refl, refl, refl), record { aligned = refl; inside = omega arith }, refl), (filled hi, (omega arith, refl), refl)));
        small = omega arith;
        same_caller = refl;
        same_body = refl;
      };
      runs = record { run = (refl, refl, refl, refl); same_caller = refl };
    };
    returns = record {
      denoted = (refl, inl (refl, refl));
      area_stands = inl refl;
      passes = inl (refl, (refl, refl, refl));
      leads = refl;
      small = omega arith;
      same_callee = refl;
      same_body = refl;
    };
  };
  finishes = record { run = (refl, refl, refl, refl); same_caller = refl };
}

text-is-promised : LinkKeepsPromise heard exact say (I32 0 ∷ I32 2 ∷ []) (saying room) (Ok []) (saying (filled hi))
text-is-promised =
    link-keeps-promise heard nothing nothing exact say _ (saying room) _ _ (saying (filled hi)) (record { params = (tt, tt); result = tt }) say-hi
    (record { caller = honest.caller; callee = room-is-honest }) (λ kinds stands x w. absurd (omega (arith, w.0, w.1)))

-- ---- what is not so

-- no other state of the body than that of its one run and of its post-return stands in the end
f-leaves-the-body : (v : Option Value) (new : CallState) → KeepsPromise parties exact f (unsigned_value int32 7 ∷ []) empty (Ok v) new → new.body ≡ []
f-leaves-the-body v new p =
    let (answer, ran, found, lifted, posted) = p.lifts in posted.1 ∙ found.run.1 ∙ found.same_body

-- typed arguments that the session placed itself are lifted without a fault
f-lifts : (k : TrapKind) (new : CallState) → KeepsPromise parties exact f (unsigned_value int32 7 ∷ []) empty (Err (Trap (record { kind = k; step = step.LiftArgs }))) new → ⊥
f-lifts k new p = p.own

-- a trap before the body is entered leaves its state
f-trap-leaves-the-body : (k : TrapKind) (new : CallState) → KeepsPromise parties exact f (unsigned_value int32 7 ∷ []) empty (Err (Trap (record { kind = k; step = step.LowerArgs }))) new → new.body ≡ []
f-trap-leaves-the-body k new p = (p.before tt).same_body

-- the caller is given what the body answers, and nothing else
f-link-gives : (back : List Flat) (new : CallState) (p : LinkKeepsPromise parties exact f (I32 7 ∷ []) empty (Ok back) new) → p.gives.answer ≡ I32 8 ∷ []
f-link-gives back new p = told p.gives.found.run.3
  where
    told : {xs ys : List Flat} → ◌≡◌ {A = Option (List Flat)} (Some xs) (Some ys) → xs ≡ ys
    told e = cc

-- in the exact order want of the host's memory comes after the whole crossing
f-wants-after : (new : CallState) → KeepsPromise parties exact f (unsigned_value int32 7 ∷ []) empty (Err NoMemory) new → (answer : List Flat) × (ran : CallState) × IsPosted parties (Some tt) new (Some answer) ran
f-wants-after new p = by (p.finds tt)
  where
    by : RunsOnce parties f (unsigned_value int32 7 ∷ []) empty (AfterRun {A = Option Value} parties exact (Err NoMemory) new) → (answer : List Flat) × (ran : CallState) × IsPosted parties (Some tt) new (Some answer) ran
    by r = answered r.answer r.ran r.after
      where
        answered : (answer : Option (List Flat)) (ran : CallState) → IsPosted parties (Some tt) new answer ran → (given : List Flat) × (w : CallState) × IsPosted parties (Some tt) new (Some given) w
        answered None ran h = absurd h
        answered (Some given) ran h = (given, ran, h)
