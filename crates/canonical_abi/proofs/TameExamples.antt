-- Worked examples: an allocator with headers and a free list in the memory that it grants from is tame and not honest, and calls over it keep the
-- promise; one that writes a live byte where it refuses is not tame, and a call over it breaks the promise.
use Rattle.std.proofs.Common.{◌≡◌, inl, inr, ℕ, ◌+◌, ◌-◌, ◌%◌, ◌<◌, ◌≤◌, Bool, true, false, cond, ◌&&◌, List, [], ◌∷◌, ◌++◌, length, Option, Some, None, Result, Ok, Err, refl, sym, ◌∙◌, subst, arith, length-append}
use Rattle.std.specs.Prelude.{slice_get, nat_le, nat_lt}
use Rattle.std.specs.Int.{w32, to_le_bytes}
use Rattle.std.specs.Str.{is_utf8, chars}
use Rattle.std.specs.Char.{encode_utf8}
use Rattle.std.proofs.lemmas.Bool.{le-leb, lt-leb, lt-ltb, le-ltb}
use Rattle.canonical_abi.specs.Types.{string_type, no_field, field, FunctionType}
use Rattle.canonical_abi.specs.Values.{Value, string_value}
use Rattle.canonical_abi.specs.Reading.{number_at, low_bits}
use Rattle.canonical_abi.specs.Guest.{Memory, Allocation, Release, IsHonest, IsWithin, IsOutside, IsAlignment, overwrite, with_bytes, rounded_to_eight}
use Rattle.canonical_abi.specs.Storing.{pointer_pair}
use Rattle.canonical_abi.specs.Trace.{Grant, node, grant, write}
use Rattle.canonical_abi.specs.Call.{Run, PostRun, Parties, CallState, Order, exact, Completes}
use Rattle.canonical_abi.specs.Session.{TypedCall}
use Rattle.canonical_abi.specs.Headline.{IsStandardFunction}
use Rattle.canonical_abi.specs.Tame.{LeavesLive, IsTameGrant, IsTameRelease, IsTame, KeepsLivePromise, LinkKeepsLivePromise}
use Rattle.canonical_abi.specs.declared.flat.Flat.TheVariants.{I32}
use Rattle.canonical_abi.specs.declared.trap.Fault.{Fault}
use Rattle.canonical_abi.specs.declared.trap.Fault.TheVariants.{Trap}
use Rattle.canonical_abi.specs.declared.trap.TrapKind.TheVariants as trap
use Rattle.canonical_abi.specs.declared.trap.Step.TheVariants as step
use Rattle.canonical_abi.proofs.Traces.BytesWrittenOver.{length-overwrite, length-le_bytes, within_or_not}
use Rattle.canonical_abi.proofs.Traces.WhatTracesKeep.{not-true}
use Rattle.canonical_abi.proofs.Traces.TracesLeaveImages.{slice_get-left, byte_over-before, byte_over-after, overwrite-get}
use Rattle.canonical_abi.proofs.Calls.TameLinkKeepsPromise.{tame-link-keeps-promise}
use Rattle.canonical_abi.proofs.Calls.TameCallKeepsPromise.{tame-call-keeps-promise}

-- ---- an allocator with headers and a free list

-- what is live stands from 16 up to a top; the head of the free list stands below, at 8
abbrev StandBelow : Memory → ℕ → Type 0
StandBelow m top = (a : ℕ) → m.live a ≡ true → (16 ≤ a) × (a < top)

-- the address is in the block
abbrev in_block : ℕ → ℕ → ℕ → Bool
in_block at size a = nat_le at a && nat_lt a (at + size)

-- the head of the free list is written
abbrev with_head : List ℕ → ℕ → List ℕ
with_head bytes n = overwrite bytes 8 (to_le_bytes w32 n)

-- a header of eight bytes is written before the block: its size, and that it is in use
abbrev with_header : List ℕ → ℕ → ℕ → List ℕ
with_header bytes at size = overwrite bytes (at - 8) (pointer_pair size 1)

-- a grant is taken above the top, with its header before it, and the head of the list is written; a refusal tries to grow, and notes that, too
abbrev Headers : Allocation
Headers old align size (Some at) new =
    (top : ℕ) × (old.state ≡ top ∷ []) × StandBelow old top × (16 ≤ top) × (top + 8 ≤ at) × (at % align ≡ 0) × (at + size ≤ length old.bytes)
    × (new ≡ record { bytes = with_head (with_header old.bytes at size) (at + size); live = λ a. cond (in_block at size a) true (old.live a); state = (at + size) ∷ [] })
Headers old align size None new =
    (top : ℕ) × (old.state ≡ top ∷ []) × StandBelow old top × (16 ≤ length old.bytes) × (grown : List ℕ)
    × (new ≡ record { bytes = with_head (old.bytes ++ grown) 0; live = old.live; state = old.state })

-- a block that is taken back goes to the front of the free list: its first word is the list's old head
abbrev Freed : Release
Freed old at size true new =
    (top : ℕ) × (old.state ≡ top ∷ []) × StandBelow old top × (4 ≤ size) × (16 ≤ at) × (at + size ≤ length old.bytes)
    × (new ≡ record {
      bytes = with_head (overwrite old.bytes at (to_le_bytes w32 (number_at old.bytes 8 w32))) at;
      live = λ a. cond (in_block at (rounded_to_eight size) a) false (old.live a);
      state = old.state;
    })
Freed old at size false new = new ≡ old

is-in : (at size a : ℕ) → IsWithin a at size → in_block at size a ≡ true
is-in at size a w = rw (le-leb at a w.0, lt-ltb a (at + size) w.1) refl

is-out : (at size a : ℕ) → IsOutside a at size → in_block at size a ≡ false
is-out at size a (inl l) = rw (lt-leb at a l) refl
is-out at size a (inr r) = let h : at ≤ a = omega arith in rw (le-leb at a h, le-ltb a (at + size) r) refl

-- a byte that is not written over
beside : (m part : List ℕ) (at a : ℕ) → at + length part ≤ length m → IsOutside a at (length part) → slice_get (overwrite m at part) a ≡ slice_get m a
beside m part at a fits (inl l) = overwrite-get m part at a fits ∙ byte_over-before at part a (slice_get m a) l
beside m part at a fits (inr r) = overwrite-get m part at a fits ∙ byte_over-after at part a (slice_get m a) (omega arith) r

still : (b x : Bool) → x ≡ true → cond b true x ≡ true
still true x e = refl
still false x e = e

module _ (m : List ℕ) (at size n : ℕ) (high : 24 ≤ at) (fits : at + size ≤ length m) where
  noted-length : length (with_head (with_header m at size) n) ≡ length m
  noted-length =
      let header : length (with_header m at size) ≡ length m = length-overwrite m (at - 8) (pointer_pair size 1) (omega arith) in
      length-overwrite (with_header m at size) 8 (to_le_bytes w32 n) (omega (arith, header, length-le_bytes w32 n)) ∙ header

  noted-byte : (a : ℕ) → 16 ≤ a → a + 8 < at → slice_get (with_head (with_header m at size) n) a ≡ slice_get m a
  noted-byte a low below =
      let header : length (with_header m at size) ≡ length m = length-overwrite m (at - 8) (pointer_pair size 1) (omega arith) in
      beside (with_header m at size) (to_le_bytes w32 n) 8 a (omega (arith, header, length-le_bytes w32 n)) (inr (omega (arith, length-le_bytes w32 n)))
      ∙ beside m (pointer_pair size 1) (at - 8) a (omega arith) (inl (omega arith))

headers-grant : (old : Memory) (align size at : ℕ) (new : Memory) → IsAlignment align → Headers old align size (Some at) new → IsTameGrant old align size at new
headers-grant old align size at new al (top, state, stand, low, above, aligned, fits, is) = subst (λ m. IsTameGrant old align size at m) (sym is) (record {
  aligned = aligned;
  inside = let l = noted-length old.bytes at size (at + size) (omega arith) fits in omega arith;
  was_free = λ a w. not-true (λ l. let h = (stand a l).1 in let i = w.0 in absurd (omega arith));
  is_live = λ a w. rw (is-in at size a w) refl;
  leaves = record {
    no_shorter = let l = noted-length old.bytes at size (at + size) (omega arith) fits in omega arith;
    live = λ a l. still (in_block at size a) (old.live a) l;
    bytes = λ a l below out. noted-byte old.bytes at size (at + size) (omega arith) fits a (stand a l).0 (let h = (stand a l).1 in omega arith);
  };
})

headers-full : (old : Memory) (align size : ℕ) (new : Memory) → Headers old align size None new → LeavesLive 0 0 old new
headers-full old align size new (top, state, stand, long, grown, is) =
    let both = length-append old.bytes grown in
    let fits : 8 + length (to_le_bytes w32 0) ≤ length (old.bytes ++ grown) = omega (arith, both, length-le_bytes w32 0) in
    subst (λ m. LeavesLive 0 0 old m) (sym is) (record {
      no_shorter = let l = length-overwrite (old.bytes ++ grown) 8 (to_le_bytes w32 0) fits in omega arith;
      live = λ a l. l;
      bytes = λ a l below out.
          let h = (stand a l).0 in
          beside (old.bytes ++ grown) (to_le_bytes w32 0) 8 a fits (inr (omega (arith, length-le_bytes w32 0))) ∙ slice_get-left old.bytes grown a below;
    })

headers-taken : (old : Memory) (at size : ℕ) (new : Memory) → Freed old at size true new → IsTameRelease old at size new
headers-taken old at size new (top, state, stand, some, low, fits, is) =
    let link = to_le_bytes w32 (number_at old.bytes 8 w32) in
    let word : length link ≡ 4 = length-le_bytes w32 (number_at old.bytes 8 w32) in
    let in_m : at + length link ≤ length old.bytes = omega arith in
    let linked : length (overwrite old.bytes at link) ≡ length old.bytes = length-overwrite old.bytes at link in_m in
    let head : length (to_le_bytes w32 at) ≡ 4 = length-le_bytes w32 at in
    let in_l : 8 + length (to_le_bytes w32 at) ≤ length (overwrite old.bytes at link) = omega arith in
    subst (λ m. IsTameRelease old at size m) (sym is) (record {
      no_shorter = let l = length-overwrite (overwrite old.bytes at link) 8 (to_le_bytes w32 at) in_l in omega arith;
      stays_live = λ a l out. rw (is-out at (rounded_to_eight size) a out) l;
      bytes = λ a l now below. elim (within_or_not a at (rounded_to_eight size)) [
        | inl w ↦ absurd (ended (in_block at (rounded_to_eight size) a) (old.live a) (is-in at (rounded_to_eight size) a w) now)
        | inr o ↦
            let h = (stand a l).0 in
            beside (overwrite old.bytes at link) (to_le_bytes w32 at) 8 a in_l (inr (omega arith))
            ∙ beside old.bytes link at a in_m (elim o [ inl before ↦ inl before | inr behind ↦ inr (omega arith) ])
      ];
    })
  where
    ended : (b x : Bool) → b ≡ true → cond b false x ≡ true → ⊥
    ended true x e n = cc
    ended false x e n = cc

pub headers-are-tame : IsTame Headers Freed
headers-are-tame = record {
  granted = headers-grant;
  full = headers-full;
  taken = headers-taken;
  not_taken = λ old at size new step. subst (λ m. LeavesLive 0 0 old m) (sym step) (record { no_shorter = omega arith; live = λ a l. l; bytes = λ a l below out. refl });
}

-- 32 zeros, of which nothing is live
abbrev fresh : Memory
fresh = record {
  bytes = 0 ∷ 0 ∷ 0 ∷ 0 ∷ 0 ∷ 0 ∷ 0 ∷ 0 ∷ 0 ∷ 0 ∷ 0 ∷ 0 ∷ 0 ∷ 0 ∷ 0 ∷ 0 ∷ 0 ∷ 0 ∷ 0 ∷ 0 ∷ 0 ∷ 0 ∷ 0 ∷ 0 ∷ 0 ∷ 0 ∷ 0 ∷ 0 ∷ 0 ∷ 0 ∷ 0 ∷ 0 ∷ [];
  live = λ a. false;
  state = 16 ∷ [];
}

-- they are not honest: the head of the free list is written, which is no byte of the block
pub headers-are-not-honest : (releases : Release) → IsHonest Headers releases → ⊥
headers-are-not-honest releases honest =
    let after : Memory = record { bytes = with_head (with_header fresh.bytes 24 8) 32; live = λ a. cond (in_block 24 8 a) true false; state = 32 ∷ [] } in
    let step : Headers fresh 8 8 (Some 24) after = (16, refl, (λ a l. let e : false ≡ true = l in cc), omega arith, omega arith, refl, omega arith, refl) in
    let e : ◌≡◌ {A = Option ℕ} (Some 32) (Some 0) = (honest.granted fresh 8 8 24 after (inr (inr (inr refl))) step).same_outside 8 (omega arith) (inl (omega arith)) in
    cc

-- calls between two such guests, with any body
abbrev headed : Run → PostRun → Parties
headed runs posts = record { caller_allocates = Headers; callee_allocates = Headers; runs = runs; posts = posts }

-- each keeps the promise of what is live, with no premise on the guests
pub headers-keep-promise : (runs : Run) (posts : PostRun) (order : Order) (f : FunctionType) (arguments : List Value) (old : CallState) (result : Result (Option Value) Fault) (new : CallState)
    → IsStandardFunction f → TypedCall (headed runs posts) order f arguments old result new → KeepsLivePromise (headed runs posts) order f arguments old result new
headers-keep-promise runs posts order f arguments old result new standard call =
    tame-call-keeps-promise (headed runs posts) Freed Freed order f arguments old result new standard call (record { caller = headers-are-tame; callee = headers-are-tame })

-- ---- a call that comes to its end over headers

-- say: func(text: string)
abbrev say : FunctionType
say = record { params = field string_type no_field; result = None }

-- a body that answers nothing, and changes nothing
abbrev heard : Parties
heard = headed (λ s m flats s' m' a. (s' ≡ s) × (m' ≡ m) × (a ≡ Some [])) (λ s m flats s' m' done. (s' ≡ s) × (m' ≡ m) × (done ≡ Some tt))

abbrev hi : List ℕ
hi = 0x68 ∷ 0x69 ∷ []

-- the text in the caller, and the callee before it is asked for its block, after that, and with the text in it
abbrev saying : Memory
saying = record { bytes = hi; live = λ a. true; state = [] }

abbrev noted : Memory
noted = record { bytes = with_head (with_header fresh.bytes 24 2) 26; live = λ a. cond (in_block 24 2 a) true false; state = 26 ∷ [] }

abbrev told : Memory
told = with_bytes noted (overwrite noted.bytes 24 hi)

abbrev between : Memory → CallState
between callee = record { caller = saying; callee = callee; body = [] }

abbrev hi_block : Grant
hi_block = record { align = 1; size = 2; at = 24; contents = 0 ∷ 0 ∷ [] }

say-hi : Completes heard say (I32 0 ∷ I32 2 ∷ []) (between fresh) [] (record { there = node ∷ grant hi_block ∷ write 24 hi ∷ []; back = [] }) (between told)
unfolding low_bits is_utf8 chars encode_utf8
say-hi = record {
  answer = [];
  returned = between told;
  returns = record {
    values = [];
    answered = between told;
    answers = record {
      values = string_value hi ∷ [];
      handed = I32 24 ∷ I32 2 ∷ [];
      entered = between told;
      enters = record {
        kinds = refl;
        denoted = (refl, inl (refl, (string_value hi, [], refl, (omega arith, refl, refl), refl)));
        passes = inl (
          refl,
          (
            string_value hi,
            [],
            node ∷ grant hi_block ∷ write 24 hi ∷ [],
            [],
            I32 24 ∷ I32 2 ∷ [],
            [],
            refl,
            refl,
            refl,
            (hi, hi_block, refl, refl, (refl, refl), refl, refl),
            (refl, refl, refl),
          ),
        );
        leads = (
          fresh,
          refl,
          (
            noted,
            ((16, refl, (λ a l. let e : false ≡ true = l in cc), omega arith, omega arith, refl, omega arith, refl), record { aligned = refl; inside = omega arith }, refl),
            (told, (omega arith, refl), refl),
          ),
        );
        small = omega arith;
        same_caller = refl;
        same_body = refl;
      };
      runs = record { run = (refl, refl, refl); same_caller = refl };
    };
    returns = record {
      denoted = (refl, inl (refl, refl));
      area_stands = inl refl;
      passes = inl (refl, (refl, refl, refl));
      leads = refl;
      small = omega arith;
      same_callee = refl;
      same_body = refl;
    };
  };
  finishes = record { run = (refl, refl, refl); same_caller = refl };
}

-- it keeps the promise of what is live, though the byte at 8 is another one
say-hi-is-promised : LinkKeepsLivePromise heard exact say (I32 0 ∷ I32 2 ∷ []) (between fresh) (Ok []) (between told)
say-hi-is-promised =
    tame-link-keeps-promise heard Freed Freed exact say _ (between fresh) _ _ (between told) (record { params = (tt, tt); result = tt }) say-hi
    (record { caller = headers-are-tame; callee = headers-are-tame }) (λ kinds stands x w. absurd (omega (arith, w.0, w.1)))

say-hi-writes-notes : (slice_get fresh.bytes 8 ≡ Some 0) × (slice_get told.bytes 8 ≡ Some 26)
say-hi-writes-notes = (refl, refl)

-- ---- what is not so

-- an allocator that grants nothing, and where it refuses writes a 9 at address 0, live or not
abbrev pub Careless : Allocation
Careless old align size (Some at) new = ⊥
Careless old align size None new = new ≡ with_bytes old (overwrite old.bytes 0 (9 ∷ []))

-- four bytes that are live
abbrev pub kept : ℕ → Memory
kept x = record { bytes = x ∷ 2 ∷ 3 ∷ 4 ∷ []; live = λ a. true; state = [] }

careless-is-not-tame : (releases : Release) → IsTame Careless releases → ⊥
careless-is-not-tame releases tame = let e : ◌≡◌ {A = Option ℕ} (Some 9) (Some 1) = (tame.full (kept 1) 1 0 (kept 9) refl).bytes 0 refl (omega arith) (inr (omega arith)) in cc

abbrev careless : Parties
careless = record { caller_allocates = Careless; callee_allocates = Careless; runs = λ s m flats s' m' a. ⊥; posts = λ s m flats s' m' done. ⊥ }

abbrev with_caller : Memory → CallState
with_caller m = record { caller = m; callee = kept 1; body = [] }

abbrev nowhere : Grant
nowhere = record { align = 1; size = 0; at = 0; contents = [] }

-- the empty text finds no room
careless-call : TypedCall careless exact say (string_value [] ∷ []) (with_caller (kept 1)) (Err (Trap (record { kind = trap.Full; step = step.Place }))) (with_caller (kept 9))
unfolding is_utf8 chars
careless-call = record {
  fails = (
    node ∷ grant nowhere ∷ write 0 [] ∷ [],
    I32 0 ∷ I32 0 ∷ [],
    0,
    (
      node ∷ grant nowhere ∷ write 0 [] ∷ [],
      I32 0 ∷ I32 0 ∷ [],
      inl (
        refl,
        (
          string_value [],
          [],
          node ∷ grant nowhere ∷ write 0 [] ∷ [],
          [],
          I32 0 ∷ I32 0 ∷ [],
          [],
          refl,
          refl,
          refl,
          ([], nowhere, refl, refl, (refl, refl), refl, refl),
          (refl, refl, refl),
        ),
      ),
      inl (refl, refl, refl, refl),
    ),
    (node ∷ [], node ∷ [], write 0 [] ∷ [], nowhere, kept 1, refl, tt, ([], refl, refl), (kept 1, refl, refl), inr (omega arith, refl)),
  );
  same_callee = refl;
  same_body = refl;
}

-- and a live byte of the caller is not what it was
careless-breaks : KeepsLivePromise careless exact say (string_value [] ∷ []) (with_caller (kept 1)) (Err (Trap (record { kind = trap.Full; step = step.Place }))) (with_caller (kept 9)) → ⊥
careless-breaks p = let e : ◌≡◌ {A = Option ℕ} (Some 9) (Some 1) = p.unchanged.bytes 0 refl (omega arith) (inr (omega arith)) in cc
