-- The steps of the host are a call in halves, so they keep its promise.
use Rattle.std.proofs.Common.{◌≡◌, inl, inr, ◌&&◌, ℕ, ◌<◌, true, List, [], drop, length, nat_lt, Some, None, Result, Ok, Err, refl, sym, subst}
use Rattle.std.specs.List.{list_all}
use Rattle.std.proofs.lemmas.Bool.{and_from, lt-ltb}
use Rattle.arrayvec.specs.ArrayVec.{ArrayVec}
use Rattle.canonical_abi.specs.Call.{PostRun, Run, CallState}
use Rattle.canonical_abi.specs.Halves.{source, as_state, body_stopped, post_stopped, CallsInHalves, HalvesKeepPromise, ends_at_entry, ends_at_run, ends_at_return, ends_at_post, completes}
use Rattle.canonical_abi.specs.Headline.{IsStandardFunction, LendsArea}
use Rattle.canonical_abi.specs.Types.{FunctionType}
use Rattle.canonical_abi.specs.declared.flat.Flat.{Flat}
use Rattle.canonical_abi.specs.declared.trap.Fault.{Fault}
use Rattle.adapter.proofs.CallFromItsWays.{return-fails}
use Rattle.host_calls.specs.Calling.{area_block, KeepsArea}
use Rattle.host_calls.proofs.ReturnAreaIsLive.{keeps-area}
use Rattle.host_calls.specs.Halves.{full_in}
use Rattle.host_calls.specs.declared.half_error.HalfError.{HalfError}
use Rattle.host_calls.specs.declared.half_error.HalfError.TheVariants as half
use Rattle.memory.specs.Blocks.{is_apart, are_good}
use Rattle.memory.specs.Lent.{lent, LentAllocates, LentReleases}
use Rattle.memory.specs.LentLaws.{LentIsHonest}
use Rattle.memory.specs.declared.block.Block.{Block}
use Rattle.example_hosts.specs.Promise.{hosting, HasGranted, LeavesCall, IsToldAs, MakesCall, RunsOnBytes, PostsOnBytes, EntersCall}

-- blocks that can be handed out, and of which none meets the return area, keep it
pub beside : (f : FunctionType) (flats : List Flat) (caller : List ℕ) (blocks : List Block) → length caller < 4294967296 → are_good (length caller) blocks ≡ true
    → list_all (is_apart (area_block f flats)) blocks ≡ true → KeepsArea f flats caller blocks
beside f flats caller blocks limited good apart =
    let both = and_from (are_good (length caller) blocks) (list_all (is_apart (area_block f flats)) blocks) good apart in
    keeps-area f flats caller blocks (and_from (nat_lt (length caller) 4294967296) (are_good (length caller) blocks && list_all (is_apart (area_block f flats)) blocks) (lt-ltb (length caller) 4294967296 limited) both)

-- with no block left to hand out, all of a memory is live
all-live : (f : FunctionType) (flats : List Flat) (bytes : List ℕ) → LendsArea f flats (lent 0 bytes [])
all-live f flats bytes = λ fits stands a inside. refl

module _ (runs : Run) (posts : PostRun) (law : HalvesKeepPromise (hosting runs posts) LentReleases LentReleases) (f : FunctionType) (flats : List Flat) (standard : IsStandardFunction f)
    (caller callee : List ℕ) (short : length caller < 4294967296) (limited : length callee < 4294967296) where
  -- what ends as a call in halves keeps the promise
  promised : (name : ℕ) (entering : List ℕ) (there : List Block) → HasGranted callee entering → (other : ℕ) (between : List ℕ) (back : List Block) → HasGranted caller between
      → LendsArea f flats (lent other between back) → (ended : Result (List Flat) Fault) (n m : ℕ) (new : CallState)
      → CallsInHalves (hosting runs posts) f flats (as_state (source caller) (lent name entering there) []) (lent other between back) ended n m new
      → (result : Result (ArrayVec Flat) HalfError) → IsToldAs there back ended new result → (caller' callee' : List ℕ) → caller' ≡ new.caller.bytes → callee' ≡ new.callee.bytes
      → MakesCall runs posts f flats caller callee result caller' callee'
  promised name entering there grants other between back grants' lends ended n m new calls result told caller' callee' is is' = record {
    name = name;
    entering = entering;
    there = there;
    callee_granted = grants;
    other = other;
    between = between;
    back = back;
    caller_granted = grants';
    ended = ended;
    new = new;
    told = told;
    caller_is = is;
    callee_is = is';
    nodes_there = n;
    nodes_back = m;
    calls = calls;
    promise =
        law f flats (as_state (source caller) (lent name entering there) []) (lent other between back) ended n m new standard calls
        (record { caller = LentIsHonest; callee = LentIsHonest })
        lends;
  }

  -- the first half was broken off
  pub not-entered : (error : HalfError) (caller' new : List ℕ) → caller' ≡ caller → EntersCall f flats caller callee (Err error) new → MakesCall runs posts f flats caller callee (Err error) caller' new
  not-entered (half.OtherBlock index) caller' new same (entering, there, grants, (name, (n, (below, (s, fails))))) =
      promised name entering there grants 0 caller [] (refl, refl) (all-live f flats caller) (Err (full_in s)) n 0 (as_state (lent 0 caller []) (lent name new (drop index there)) [])
      (ends_at_entry (full_in s) n (lent name new (drop index there)) fails) (Err (half.OtherBlock index)) (inl (below, (name, refl)), (s, refl)) caller' new same refl
  not-entered (half.Fault fault) caller' new same (entering, there, grants, (name, (n, (rest, fails, none)))) =
      promised name entering there grants 0 caller [] (refl, refl) (all-live f flats caller) (Err fault) n 0 (as_state (lent 0 caller []) (lent name new rest) [])
      (ends_at_entry fault n (lent name new rest) fails) (Err (half.Fault fault)) refl caller' new same refl

  -- the core function stopped
  pub not-run : (handed : ArrayVec Flat) (entered caller' left : List ℕ) → caller' ≡ caller → EntersCall f flats caller callee (Ok handed) entered → RunsOnBytes runs entered handed.items left None
      → MakesCall runs posts f flats caller callee (Err (half.Fault body_stopped)) caller' left
  not-run handed entered caller' left same (entering, there, grants, (name, (n, rest, enters))) run =
      promised name entering there grants 0 caller [] (refl, refl) (all-live f flats caller) (Err body_stopped) n 0 (as_state (lent 0 caller []) (lent name left rest) [])
      (ends_at_run n (lent name left rest) [] (record { handed = handed.items; entered = lent name entered rest; enters = enters; run = run (lent name entered rest) }))
      (Err (half.Fault body_stopped)) refl caller' left same refl

  -- the second half was broken off
  pub not-returned : (handed : ArrayVec Flat) (entered left : List ℕ) (answer : List Flat) (error : HalfError) (new callee' : List ℕ) → callee' ≡ left → EntersCall f flats caller callee (Ok handed) entered
      → RunsOnBytes runs entered handed.items left (Some answer) → LeavesCall f flats left answer caller (Err error) new → MakesCall runs posts f flats caller callee (Err error) new callee'
  not-returned handed entered left answer (half.OtherBlock index) new callee' same (entering, there, grants, (name, (n, rest, enters))) run (between, back, grants', area, (other, (m, (below, (s, fails))))) =
      promised name entering there grants other between back grants' (λ fits stands. area other fits) (Err (full_in s)) n m (as_state (lent other new (drop index back)) (lent name left rest) [])
      (ends_at_return n m answer (full_in s) (lent other new (drop index back)) (lent name left rest) []
      (record { handed = handed.items; entered = lent name entered rest; enters = enters; run = run (lent name entered rest) })
      (return-fails LentAllocates f flats left answer (lent other between back) (full_in s) (lent other new (drop index back)) m enters.2.kinds fails))
      (Err (half.OtherBlock index)) (inr (below, (other, refl)), (s, refl)) new callee' refl same
  not-returned handed entered left answer (half.Fault fault) new callee' same (entering, there, grants, (name, (n, rest, enters))) run (between, back, grants', area, (other, (m, (remain, fails, none)))) =
      promised name entering there grants other between back grants' (λ fits stands. area other fits) (Err fault) n m (as_state (lent other new remain) (lent name left rest) [])
      (ends_at_return n m answer fault (lent other new remain) (lent name left rest) []
      (record { handed = handed.items; entered = lent name entered rest; enters = enters; run = run (lent name entered rest) })
      (return-fails LentAllocates f flats left answer (lent other between back) fault (lent other new remain) m enters.2.kinds fails))
      (Err (half.Fault fault)) refl new callee' refl same

  -- post-return stopped
  pub not-finished : (handed : ArrayVec Flat) (entered left : List ℕ) (answer : List Flat) (given : ArrayVec Flat) (new callee' : List ℕ) → EntersCall f flats caller callee (Ok handed) entered
      → RunsOnBytes runs entered handed.items left (Some answer) → LeavesCall f flats left answer caller (Ok given) new → PostsOnBytes posts left answer callee' None
      → MakesCall runs posts f flats caller callee (Err (half.Fault post_stopped)) new callee'
  not-finished handed entered left answer given new callee' (entering, there, grants, (name, (n, rest, enters))) run (between, back, grants', area, (other, (m, remain, returns))) post =
      promised name entering there grants other between back grants' (λ fits stands. area other fits) (Err post_stopped) n m (as_state (lent other new remain) (lent name callee' rest) [])
      (ends_at_post n m answer given.items (lent other new remain) (lent name left rest) []
      (record { runs = record { handed = handed.items; entered = lent name entered rest; enters = enters; run = run (lent name entered rest) }; returns = returns })
      (lent name callee' rest) [] (post (lent name left rest)))
      (Err (half.Fault post_stopped)) refl new callee' refl refl

  -- all of it was done
  pub finished : (handed : ArrayVec Flat) (entered left : List ℕ) (answer : List Flat) (given : ArrayVec Flat) (new callee' : List ℕ) → EntersCall f flats caller callee (Ok handed) entered
      → RunsOnBytes runs entered handed.items left (Some answer) → LeavesCall f flats left answer caller (Ok given) new → PostsOnBytes posts left answer callee' (Some tt)
      → MakesCall runs posts f flats caller callee (Ok given) new callee'
  finished handed entered left answer given new callee' (entering, there, grants, (name, (n, rest, enters))) run (between, back, grants', area, (other, (m, remain, returns))) post =
      promised name entering there grants other between back grants' (λ fits stands. area other fits) (Ok given.items) n m (as_state (lent other new remain) (lent name callee' rest) [])
      (completes n m answer given.items (lent other new remain) (lent name left rest) []
      (record { runs = record { handed = handed.items; entered = lent name entered rest; enters = enters; run = run (lent name entered rest) }; returns = returns })
      (lent name callee' rest) [] (post (lent name left rest)))
      (Ok given) refl new callee' refl refl
