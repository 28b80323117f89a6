-- Worked examples: what stays as it was, what a block holds, how a request ends, and what they do not let stand.
use Rattle.std.proofs.Common.{◌≡◌, inl, inr, ℕ, zero, suc, ◌<◌, false, true, List, [], ◌∷◌, ◌++◌, replicate, Option, Some, refl, ap, arith}
use Rattle.std.specs.Prelude.{slice_get, nat_lt}
use Rattle.std.proofs.lemmas.Bool.{ltb-true}
use Rattle.canonical_abi.specs.Types.{int8, int32, unsigned, ClosedType, prim_type}
use Rattle.canonical_abi.specs.Values.{unsigned_value}
use Rattle.canonical_abi.specs.Reading.{number_at}
use Rattle.canonical_abi.specs.Memory.{Holds, HoldsInBlock, FaultyInBlock}
use Rattle.canonical_abi.specs.Guest.{Memory, Allocation, Release, IsOutside, IsRelease, IsHonest, rounded_to_eight}
use Rattle.canonical_abi.specs.Trace.{Grant, Event, node, grant, write, grants_of, RequestEnds, TraceEnds}
use Rattle.canonical_abi.specs.Call.{CallState, exact}
use Rattle.canonical_abi.specs.Session.{TypedTraps}
use Rattle.canonical_abi.specs.Headline.{IsOutsideAll, IsUnchangedOutside, KeepsLive, AreLive, KeepsOutside, CallerIsUnchanged}
use Rattle.canonical_abi.specs.declared.flat.Flat.TheVariants.{I32}
use Rattle.canonical_abi.specs.declared.trap.TrapKind.{TrapKind}
use Rattle.canonical_abi.specs.declared.trap.TrapKind.TheVariants as trap
use Rattle.canonical_abi.specs.declared.trap.Step.TheVariants as step
use Rattle.canonical_abi.proofs.Traces.BytesWrittenOver.{within_or_not}
use Rattle.canonical_abi.proofs.CallExamples.{answering, empty, f}
use Rattle.canonical_abi.proofs.TameExamples.{Careless, kept}

-- ---- two bytes, of which the first is granted once

abbrev fresh : Memory
fresh = record { bytes = 0 ∷ 0 ∷ []; live = λ a. false; state = [] }

abbrev filled : ℕ → ℕ → Memory
filled x y = record { bytes = x ∷ y ∷ []; live = λ a. nat_lt a 1; state = [] }

abbrev grants_first : Allocation
grants_first old align size at new = (old ≡ fresh) × (size ≡ 1) × (at ≡ Some 0) × (new ≡ filled 0 0)

abbrev first_block : Grant
first_block = record { align = 1; size = 1; at = 0; contents = 0 ∷ [] }

abbrev placing : List Event
placing = grant first_block ∷ write 0 (7 ∷ []) ∷ []

-- the second byte is as it was
second : (a x y : ℕ) → a < 2 → IsOutside a 0 1 → slice_get (x ∷ 0 ∷ []) a ≡ slice_get (y ∷ 0 ∷ []) a
second zero x y below (inl o) = absurd (omega arith)
second zero x y below (inr o) = absurd (omega arith)
second (suc zero) x y below o = refl
second (suc (suc a)) x y below o = absurd (omega arith)

-- the first is as it was
first : (a x y : ℕ) → a < 1 → slice_get (7 ∷ x ∷ []) a ≡ slice_get (7 ∷ y ∷ []) a
first zero x y below = refl
first (suc a) x y below = absurd (omega arith)

first-live : (a : ℕ) → a < 1 → nat_lt a 1 ≡ true
first-live zero below = refl
first-live (suc a) below = absurd (omega arith)

-- a block is filled, and the byte beside it stays
unchanged-beside : IsUnchangedOutside (first_block ∷ []) 0 0 fresh (filled 7 0)
unchanged-beside = λ a below out o. second a 7 0 below out.0

placed-beside : KeepsOutside grants_first 0 0 fresh (filled 7 0)
placed-beside = record {
  events = placing;
  granted = (placing, (_, refl, inr ([], refl, refl)), (filled 0 0, ((refl, refl, refl, refl), record { aligned = refl; inside = omega arith }, refl), (filled 7 0, (omega arith, refl), refl)));
  unchanged = unchanged-beside;
  live = (λ a w. first-live a (omega (arith, w.1)), tt);
  keeps_live = record { live = λ a is. let e : false ≡ true = is in cc; bytes = λ a is below o. let e : false ≡ true = is in cc };
}

-- what is live keeps its byte, whatever is beside it; and a byte that is lent may be another
live-kept : KeepsLive 0 0 (filled 7 0) (filled 7 9)
live-kept = record { live = λ a is. is; bytes = λ a is below o. first a 9 0 (ltb-true a 1 is) }

live-lent : KeepsLive 0 1 (filled 7 0) (filled 8 0)
live-lent = record { live = λ a is. is; bytes = λ a is below o. second a 8 7 below o }

-- ---- a value in its block

abbrev u8 : ClosedType
u8 = prim_type (unsigned int8)

abbrev u32 : ClosedType
u32 = prim_type (unsigned int32)

seven-in-block : HoldsInBlock u8 (7 ∷ []) 0 (unsigned_value int8 7)
unfolding number_at
seven-in-block = ((refl, omega arith), refl)

-- past the end bytes count as 0, so there is a value without a block
zero-past-the-end : Holds u32 [] 100 (unsigned_value int32 0)
unfolding number_at
zero-past-the-end = refl

past-the-end : FaultyInBlock u32 [] 100 trap.Bounds
past-the-end = inl (inr (refl, omega arith, refl))

-- the alignment is tested before the end
misaligned-past-the-end : FaultyInBlock u32 [] 101 trap.Align
misaligned-past-the-end = inl (inl (λ e. cc, refl))

-- ---- requests

abbrev refusing : Allocation
refusing old align size at new = ⊥

-- more than the limit is not asked for
too-large : RequestEnds 16 refusing fresh 1 17 trap.Bounds fresh
too-large = inl (omega arith, refl, refl)

trace-too-large : TraceEnds 0 refusing fresh (node ∷ grant first_block ∷ []) trap.Bounds fresh
trace-too-large = (node ∷ [], node ∷ [], [], first_block, fresh, refl, tt, ([], refl, refl), (fresh, refl, refl), inl (omega arith, refl, refl))

-- ---- a block that is given back

abbrev eight : ℕ → Memory
eight x = record { bytes = x ∷ replicate 7 0; live = λ a. nat_lt a 8; state = [] }

abbrev freed : ℕ → Memory
freed x = record { bytes = x ∷ replicate 7 0; live = λ a. false; state = [] }

whole-unit : (a : ℕ) → a < 8 → IsOutside a 0 (rounded_to_eight 1) → ⊥
whole-unit a below (inl o) = absurd (omega arith)
whole-unit a below (inr o) = absurd (omega arith)

-- the rest of its unit of eight bytes may go with it
given-back : IsRelease (eight 7) 0 1 (freed 7)
given-back = record {
  same_bytes = refl;
  none_new = λ a is. let e : false ≡ true = is in cc;
  stays_live = λ a is out. absurd (whole-unit a (ltb-true a 8 is) out);
}

-- ---- what is not so

-- an address that is not live is in none of the blocks
outside-all : (gs : List Grant) (m : Memory) (a : ℕ) → m.live a ≡ false → AreLive gs m → IsOutsideAll gs a
outside-all [] m a dead live = tt
outside-all (g ∷ gs) m a dead live = (apart, outside-all gs m a dead live.1)
  where
    apart : IsOutside a g.at g.size
    apart = elim (within_or_not a g.at g.size) [ inl w ↦ (let e = live.0 a w in absurd (cc)) | inr o ↦ o ]

-- one byte of the caller outside all blocks is another
another-beside : KeepsOutside grants_first 0 0 fresh (filled 7 9) → ⊥
another-beside k =
    let e : ◌≡◌ {A = Option ℕ} (Some 9) (Some 0) = k.unchanged 1 (omega arith) (outside-all (grants_of k.events) (filled 7 9) 1 refl k.live) (inr (omega arith)) in cc

another-in-caller : CallerIsUnchanged (record (answering [] []) { caller_allocates = grants_first }) (record empty { caller = fresh }) (record empty { caller = filled 7 9 }) → ⊥
another-in-caller k = another-beside k

changed-beside : IsUnchangedOutside (first_block ∷ []) 0 0 fresh (filled 7 9) → ⊥
changed-beside h = let e : ◌≡◌ {A = Option ℕ} (Some 9) (Some 0) = h 1 (omega arith) (inr (omega arith), tt) (inr (omega arith)) in cc

-- a live byte is another, or is live no more
live-changed : KeepsLive 0 0 (filled 7 0) (filled 8 0) → ⊥
live-changed k = let e : ◌≡◌ {A = Option ℕ} (Some 8) (Some 7) = k.bytes 0 refl (omega arith) (inr (omega arith)) in cc

live-ended : KeepsLive 0 0 (eight 7) (freed 7) → ⊥
live-ended k = let e : false ≡ true = k.live 0 refl in cc

-- a value past the end is in no block, and a value in its block has no fault
not-in-block : HoldsInBlock u32 [] 100 (unsigned_value int32 0) → ⊥
not-in-block h = absurd (omega (arith, h.0.1))

no-fault-in-block : (k : TrapKind) → FaultyInBlock u8 (7 ∷ []) 0 k → ⊥
no-fault-in-block k (inl (inl (aligned, is))) = aligned refl
no-fault-in-block k (inl (inr (aligned, past, is))) = absurd (omega (arith, past))
no-fault-in-block k (inr (block, faulty)) = absurd faulty

-- what is within the limit is asked for
within-the-limit : (new : Memory) → RequestEnds 16 refusing fresh 1 16 trap.Bounds new → ⊥
within-the-limit new (inl large) = absurd (omega (arith, large.0))
within-the-limit new (inr asked) = absurd asked.1.1

-- a trace without a request does not end early
no-request : (k : TrapKind) (new : Memory) → TraceEnds 16 refusing fresh (node ∷ []) k new → ⊥
no-request k new ends = by ends.0 ends.2 ends.3 ends.5
  where
    by : (done rest : List Event) (next : Grant) → ◌≡◌ {A = List Event} (node ∷ []) (done ++ grant next ∷ rest) → ⊥
    by [] rest next e = absurd (cc)
    by (x ∷ []) rest next e = absurd (cc)
    by (x ∷ y ∷ ys) rest next e = absurd (cc)

-- a number asks for no block, so its call is not refused before the body is entered
nothing-to-place : (new : CallState) → TypedTraps (answering (I32 7 ∷ []) (I32 8 ∷ [])) exact f (unsigned_value int32 7 ∷ []) empty step.Place trap.Full new → ⊥
nothing-to-place new failed = let breaks = failed.fails.4 in by breaks.4 breaks.3.align breaks.3.size breaks.9
  where
    by : (asked : Memory) (align size : ℕ) → RequestEnds 16777216 (λ old align size at new. ⊥) asked align size trap.Full new.caller → ⊥
    by asked align size (inl large) = let e : trap.Full ≡ trap.Bounds = large.1 in absurd (cc)
    by asked align size (inr refused) = absurd refused.1

-- a release that changes a byte, or ends life beyond the block's last unit
changed-by-release : IsRelease (eight 7) 0 1 (freed 8) → ⊥
changed-by-release r = let e : ◌≡◌ {A = List ℕ} (8 ∷ replicate 7 0) (7 ∷ replicate 7 0) = r.same_bytes in cc

ended-by-release : IsRelease (kept 1) 0 1 (record (kept 1) { live = λ a. false }) → ⊥
ended-by-release r = let e : false ≡ true = r.stays_live 16 refl (inr (omega arith)) in cc

-- a guest that writes where it refuses is not honest, nor is one that grants what is live
writes-where-refusing : (releases : Release) → IsHonest Careless releases → ⊥
writes-where-refusing releases honest =
    let e : ◌≡◌ {A = List ℕ} (9 ∷ 2 ∷ 3 ∷ 4 ∷ []) (1 ∷ 2 ∷ 3 ∷ 4 ∷ []) = ap (λ m. m.bytes) (honest.full (kept 1) 1 0 (kept 9) refl) in cc

grants-what-is-live : (releases : Release) → IsHonest (λ old align size at new. (at ≡ Some 0) × (new ≡ old)) releases → ⊥
grants-what-is-live releases honest =
    let e : true ≡ false = (honest.granted (kept 1) 1 1 0 (kept 1) (inl refl) (refl, refl)).was_free 0 (omega arith, omega arith) in cc
