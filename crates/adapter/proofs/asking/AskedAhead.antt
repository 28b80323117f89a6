-- What is asked for as far as bytes can be read: of what can be read whole it is what the value asks for, and it goes on part by part.
use Rattle.std.proofs.Common.{◌≡◌, ℕ, Bool, true, false, zero, suc, ◌+◌, ◌-◌, ◌*◌, ◌<◌, List, [], ◌∷◌, ◌++◌, length, drop, Some, None, Result, Ok, Err, if◌then◌else◌, refl, sym, ap, ◌∙◌, subst, arith}
use Rattle.std.specs.Int.{w32, next_multiple_of}
use Rattle.canonical_abi.specs.Types.{ClosedType, prim_type, string_type, list_type, record_type, variant_type, flags_type, Fields, no_field, field, Cases, no_case, plain_case, case_with, nth_field, nth_case}
use Rattle.canonical_abi.specs.Values.{Value, values_of, list_value, record_value, payload_value}
use Rattle.canonical_abi.specs.Layout.{align, size, payload_place, flat_kinds}
use Rattle.canonical_abi.specs.Reading.{◌>>=◌, reading, lifting, reading_fields, reading_case, lifting_fields, lifting_case, each_at, list_at, text_at, block_at, number_at, low_bits, case_number}
use Rattle.canonical_abi.specs.Requests.{request, requests, each_request, fields_requests, case_requests, case_of_plain, payload_of}
use Rattle.canonical_abi.specs.Trace
use Rattle.canonical_abi.specs.declared.trap.TrapKind.{TrapKind}
use Rattle.canonical_abi.specs.declared.trap.TrapKind.TheVariants as trap
use Rattle.std.specs.Prelude.{slice_range}
use Rattle.std.specs.Str.{is_utf8}
use Rattle.std.proofs.lemmas.Option.{same_Some}
use Rattle.lift_lower.proofs.LiftingStepByStep.{drop-more}
use Rattle.values.proofs.FieldsFromAPlace.{fields_from, fields-next}
use Rattle.adapter.specs.Asking.{total, Stops}
use Rattle.adapter.specs.Ahead.{then_asked, each_asked, list_asked, asked_at, fields_asked, case_asked, asked_in, flat_fields_asked, flat_case_asked, MeetsLimit, TellsLimit}
use Rattle.adapter.specs.declared.asking.request.Untold.{Untold}
use Rattle.adapter.specs.declared.asking.request.Untold.TheVariants as untold
use Rattle.adapter.proofs.asking.RequestsOfParts.{total-append, bind-ok, ok-inj, err-ok, by-or, by-bool, text-read, each-length, list-told, record-told}

-- ---- what can be read

pub each-asks-as : (read : ℕ → Result Value TrapKind) (ask : ℕ → List Trace.Request) (f : Value → List Trace.Request) (step : ℕ) → ((a : ℕ) (v : Value) → read a ≡ Ok v → ask a ≡ f v)
    → (a n : ℕ) (vs : List Value) → each_at read step a n ≡ Ok vs → each_asked read ask step a n ≡ each_request f vs
each-asks-as read ask f step one a zero vs e = ap (each_request f) (ok-inj e)
each-asks-as read ask f step one a (suc n) vs e =
    let (v, p, q) = bind-ok (read a) (λ v. each_at read step (a + step) n >>= λ vs. Ok (v ∷ vs)) vs e in
    let (ws, r, s) = bind-ok (each_at read step (a + step) n) (λ vs. Ok (v ∷ vs)) vs q in
    ap (λ (r : Result Value TrapKind). ask a ++ then_asked r (each_asked read ask step (a + step) n)) p
    ∙ ap (λ rs. ask a ++ rs) (each-asks-as read ask f step one (a + step) n ws r)
    ∙ ap (λ rs. rs ++ each_request f ws) (one a v p)
    ∙ ap (each_request f) (ok-inj s)

block-is : (b c : Bool) (at a : ℕ) → ◌≡◌ {A = Result ℕ TrapKind} (if b then (if c then Ok at else Err trap.Bounds) else Err trap.Align) (Ok a) → at ≡ a
block-is true true at a e = ok-inj e
block-is true false at a e = absurd (err-ok e)
block-is false c at a e = absurd (err-ok e)

list-asks-as : (t : ClosedType) (read : ℕ → Result Value TrapKind) (ask : ℕ → List Trace.Request) (m : List ℕ) (at n : ℕ) (b : Value) → ((a : ℕ) (v : Value) → read a ≡ Ok v → ask a ≡ requests t v)
    → list_at read m (align t) (size t) at n ≡ Ok b → list_asked read ask m (align t) (size t) at n ≡ requests (list_type t) b
list-asks-as t read ask m at n b one e =
    let (a, p, q) = bind-ok (block_at m at (align t) (n * size t)) (λ a. each_at read (size t) a n >>= λ vs. Ok (list_value (values_of vs))) b e in
    let (vs, r, s) = bind-ok (each_at read (size t) a n) (λ vs. Ok (list_value (values_of vs))) b q in
    let here = subst (λ a. each_at read (size t) a n ≡ Ok vs) (sym (block-is _ _ at a p)) r in
    ap (λ (r : Result ℕ TrapKind). then_asked r (request (align t) (n * size t) ∷ each_asked read ask (size t) at n)) p
    ∙ ap (λ rs. request (align t) (n * size t) ∷ rs) (each-asks-as read ask (requests t) (size t) one at n vs here)
    ∙ list-told t vs n (align t) (size t) refl refl (each-length read (size t) at n vs here) ∙ ap (requests (list_type t)) (ok-inj s)

text-asks-as : (m : List ℕ) (at n : ℕ) (v : Value) → text_at m at n ≡ Ok v → request 1 n ∷ [] ≡ requests string_type v
text-asks-as m at n v e = ap (λ k. request 1 k ∷ []) (sym (text-read m at n v e (by-or (length m) (at + n)) (by-bool (is_utf8 (slice_range m at (at + n))))))

mutual
  pub asks-at : (t : ClosedType) (m : List ℕ) (a : ℕ) (v : Value) → reading t m a ≡ Ok v → asked_at t m a ≡ requests t v
  asks-at (prim_type p) m a v e = refl
  asks-at string_type m a v e = text-asks-as m (number_at m a w32) (number_at m (a + 4) w32) v e
  asks-at (list_type t) m a v e = list-asks-as t (reading t m) (asked_at t m) m (number_at m a w32) (number_at m (a + 4) w32) v (λ b w. asks-at t m b w) e
  asks-at (record_type fs) m a v e =
      let (vs, p, q) = bind-ok (reading_fields fs m a 0) (λ vs. Ok (record_value (values_of vs))) v e in
      fields-ask-at fs m a 0 vs p ∙ record-told fs vs ∙ ap (requests (record_type fs)) (ok-inj q)
  asks-at (variant_type cs) m a v e =
      let (i, asks) = case-asks-at cs m (a + payload_place cs) (case_number cs m a) (case_number cs m a) v e in
      asks ∙ ap (λ n. case_requests cs n (payload_of v)) (sym i)
  asks-at (flags_type n) m a v e = refl

  pub fields-ask-at : (fs : Fields) (m : List ℕ) (a from : ℕ) (vs : List Value) → reading_fields fs m a from ≡ Ok vs → fields_asked fs m a from ≡ fields_requests fs vs
  fields-ask-at no_field m a from vs e = refl
  fields-ask-at (field t fs) m a from vs e =
      let place = next_multiple_of from (align t) in
      let (v, p, q) = bind-ok (reading t m (a + place)) (λ v. reading_fields fs m a (place + size t) >>= λ vs. Ok (v ∷ vs)) vs e in
      let (ws, r, s) = bind-ok (reading_fields fs m a (place + size t)) (λ vs. Ok (v ∷ vs)) vs q in
      ap (λ (r : Result Value TrapKind). asked_at t m (a + place) ++ then_asked r (fields_asked fs m a (place + size t))) p
      ∙ ap (λ rs. asked_at t m (a + place) ++ rs) (fields-ask-at fs m a (place + size t) ws r)
      ∙ ap (λ rs. rs ++ fields_requests fs ws) (asks-at t m (a + place) v p)
      ∙ ap (fields_requests (field t fs)) (ok-inj s)

  case-asks-at : (cs : Cases) (m : List ℕ) (a i n : ℕ) (v : Value) → reading_case cs m a i n ≡ Ok v → (case_of_plain v ≡ i) × (case_asked cs m a n ≡ case_requests cs n (payload_of v))
  case-asks-at no_case m a i n v e = absurd (err-ok e)
  case-asks-at (plain_case cs) m a i zero v e = (ap case_of_plain (sym (ok-inj e)), refl)
  case-asks-at (plain_case cs) m a i (suc n) v e = case-asks-at cs m a i n v e
  case-asks-at (case_with t cs) m a i zero v e =
      let (w, p, q) = bind-ok (reading t m a) (λ v. Ok (payload_value i v)) v e in
      (ap case_of_plain (sym (ok-inj q)), asks-at t m a w p ∙ ap (λ v. case_requests (case_with t cs) zero (payload_of v)) (ok-inj q))
  case-asks-at (case_with t cs) m a i (suc n) v e = case-asks-at cs m a i n v e

mutual
  pub asks-in : (t : ClosedType) (m fs : List ℕ) (v : Value) → lifting t m fs ≡ Ok v → asked_in t m fs ≡ requests t v
  asks-in (prim_type p) m fs v e = refl
  asks-in string_type m fs v e = text-asks-as m (low_bits fs 0 32) (low_bits fs 1 32) v e
  asks-in (list_type t) m fs v e = list-asks-as t (reading t m) (asked_at t m) m (low_bits fs 0 32) (low_bits fs 1 32) v (λ b w. asks-at t m b w) e
  asks-in (record_type ts) m fs v e =
      let (vs, p, q) = bind-ok (lifting_fields ts m fs) (λ vs. Ok (record_value (values_of vs))) v e in
      fields-ask-in ts m fs vs p ∙ record-told ts vs ∙ ap (requests (record_type ts)) (ok-inj q)
  asks-in (variant_type cs) m fs v e =
      let (i, asks) = case-asks-in cs m (drop 1 fs) (low_bits fs 0 32) (low_bits fs 0 32) v e in
      asks ∙ ap (λ n. case_requests cs n (payload_of v)) (sym i)
  asks-in (flags_type n) m fs v e = refl

  pub fields-ask-in : (ts : Fields) (m fs : List ℕ) (vs : List Value) → lifting_fields ts m fs ≡ Ok vs → flat_fields_asked ts m fs ≡ fields_requests ts vs
  fields-ask-in no_field m fs vs e = refl
  fields-ask-in (field t ts) m fs vs e =
      let rest = drop (length (flat_kinds t)) fs in
      let (v, p, q) = bind-ok (lifting t m fs) (λ v. lifting_fields ts m rest >>= λ vs. Ok (v ∷ vs)) vs e in
      let (ws, r, s) = bind-ok (lifting_fields ts m rest) (λ vs. Ok (v ∷ vs)) vs q in
      ap (λ (r : Result Value TrapKind). asked_in t m fs ++ then_asked r (flat_fields_asked ts m rest)) p
      ∙ ap (λ rs. asked_in t m fs ++ rs) (fields-ask-in ts m rest ws r)
      ∙ ap (λ rs. rs ++ fields_requests ts ws) (asks-in t m fs v p)
      ∙ ap (fields_requests (field t ts)) (ok-inj s)

  case-asks-in : (cs : Cases) (m fs : List ℕ) (i n : ℕ) (v : Value) → lifting_case cs m fs i n ≡ Ok v → (case_of_plain v ≡ i) × (flat_case_asked cs m fs n ≡ case_requests cs n (payload_of v))
  case-asks-in no_case m fs i n v e = absurd (err-ok e)
  case-asks-in (plain_case cs) m fs i zero v e = (ap case_of_plain (sym (ok-inj e)), refl)
  case-asks-in (plain_case cs) m fs i (suc n) v e = case-asks-in cs m fs i n v e
  case-asks-in (case_with t cs) m fs i zero v e =
      let (w, p, q) = bind-ok (lifting t m fs) (λ v. Ok (payload_value i v)) v e in
      (ap case_of_plain (sym (ok-inj q)), asks-in t m fs w p ∙ ap (λ v. case_requests (case_with t cs) zero (payload_of v)) (ok-inj q))
  case-asks-in (case_with t cs) m fs i (suc n) v e = case-asks-in cs m fs i n v e

-- ---- part by part

pub each-asked-next : (read : ℕ → Result Value TrapKind) (ask : ℕ → List Trace.Request) (step a n i : ℕ) → i < n
    → each_asked read ask step (a + i * step) (n - i) ≡ ask (a + i * step) ++ then_asked (read (a + i * step)) (each_asked read ask step (a + (i + 1) * step) (n - (i + 1)))
each-asked-next read ask step a n i h =
    let e : n - i ≡ suc (n - (i + 1)) = omega arith in
    let g : a + i * step + step ≡ a + (i + 1) * step = omega arith in
    rw e (rw g refl)

pub each-asked-first : (read : ℕ → Result Value TrapKind) (ask : ℕ → List Trace.Request) (step a n : ℕ) → each_asked read ask step (a + 0 * step) (n - 0) ≡ each_asked read ask step a n
each-asked-first read ask step a n =
    let here : a + 0 * step ≡ a = omega arith in
    let all : n - 0 ≡ n = omega arith in
    rw (here, all) refl

pub each-asked-last : (read : ℕ → Result Value TrapKind) (ask : ℕ → List Trace.Request) (step a n : ℕ) → each_asked read ask step a (n - n) ≡ []
each-asked-last read ask step a n = let none : n - n ≡ 0 = omega arith in rw none refl

pub fields-asked-next : (fs : Fields) (m : List ℕ) (a from i : ℕ) (t : ClosedType) → nth_field fs i ≡ Some t
    → fields_asked (fields_from i fs) m a from
    ≡ asked_at t m (a + next_multiple_of from (align t)) ++ then_asked (reading t m (a + next_multiple_of from (align t))) (fields_asked (fields_from (i + 1) fs) m a (next_multiple_of from (align t) + size t))
fields-asked-next fs m a from i t h = ap (λ us. fields_asked us m a from) (fields-next fs i t h)

pub flat-asked-next : (fs : Fields) (m ns : List ℕ) (i used : ℕ) (t : ClosedType) → nth_field fs i ≡ Some t
    → flat_fields_asked (fields_from i fs) m (drop used ns)
    ≡ asked_in t m (drop used ns) ++ then_asked (lifting t m (drop used ns)) (flat_fields_asked (fields_from (i + 1) fs) m (drop (used + length (flat_kinds t)) ns))
flat-asked-next fs m ns i used t h =
    ap (λ us. flat_fields_asked us m (drop used ns)) (fields-next fs i t h)
    ∙ ap (λ xs. asked_in t m (drop used ns) ++ then_asked (lifting t m (drop used ns)) (flat_fields_asked (fields_from (i + 1) fs) m xs)) (drop-more used (length (flat_kinds t)) ns)

pub case-asked-none : (cs : Cases) (m : List ℕ) (a n : ℕ) → nth_case cs n ≡ None → case_asked cs m a n ≡ []
case-asked-none no_case m a n e = refl
case-asked-none (plain_case cs) m a zero e = refl
case-asked-none (plain_case cs) m a (suc n) e = case-asked-none cs m a n e
case-asked-none (case_with t cs) m a zero e = cc
case-asked-none (case_with t cs) m a (suc n) e = case-asked-none cs m a n e

pub case-asked-plain : (cs : Cases) (m : List ℕ) (a n : ℕ) → nth_case cs n ≡ Some None → case_asked cs m a n ≡ []
case-asked-plain no_case m a n e = refl
case-asked-plain (plain_case cs) m a zero e = refl
case-asked-plain (plain_case cs) m a (suc n) e = case-asked-plain cs m a n e
case-asked-plain (case_with t cs) m a zero e = cc
case-asked-plain (case_with t cs) m a (suc n) e = case-asked-plain cs m a n e

pub case-asked-payload : (cs : Cases) (m : List ℕ) (a n : ℕ) (t : ClosedType) → nth_case cs n ≡ Some (Some t) → case_asked cs m a n ≡ asked_at t m a
case-asked-payload no_case m a n t e = cc
case-asked-payload (plain_case cs) m a zero t e = cc
case-asked-payload (plain_case cs) m a (suc n) t e = case-asked-payload cs m a n t e
case-asked-payload (case_with u cs) m a zero t e = ap (λ u. asked_at u m a) (same_Some _ _ (same_Some _ _ e))
case-asked-payload (case_with u cs) m a (suc n) t e = case-asked-payload cs m a n t e

pub flat-case-none : (cs : Cases) (m fs : List ℕ) (n : ℕ) → nth_case cs n ≡ None → flat_case_asked cs m fs n ≡ []
flat-case-none no_case m fs n e = refl
flat-case-none (plain_case cs) m fs zero e = refl
flat-case-none (plain_case cs) m fs (suc n) e = flat-case-none cs m fs n e
flat-case-none (case_with t cs) m fs zero e = cc
flat-case-none (case_with t cs) m fs (suc n) e = flat-case-none cs m fs n e

pub flat-case-plain : (cs : Cases) (m fs : List ℕ) (n : ℕ) → nth_case cs n ≡ Some None → flat_case_asked cs m fs n ≡ []
flat-case-plain no_case m fs n e = refl
flat-case-plain (plain_case cs) m fs zero e = refl
flat-case-plain (plain_case cs) m fs (suc n) e = flat-case-plain cs m fs n e
flat-case-plain (case_with t cs) m fs zero e = cc
flat-case-plain (case_with t cs) m fs (suc n) e = flat-case-plain cs m fs n e

pub flat-case-payload : (cs : Cases) (m fs : List ℕ) (n : ℕ) (t : ClosedType) → nth_case cs n ≡ Some (Some t) → flat_case_asked cs m fs n ≡ asked_in t m fs
flat-case-payload no_case m fs n t e = cc
flat-case-payload (plain_case cs) m fs zero t e = cc
flat-case-payload (plain_case cs) m fs (suc n) t e = flat-case-payload cs m fs n t e
flat-case-payload (case_with u cs) m fs zero t e = ap (λ u. asked_in u m fs) (same_Some _ _ (same_Some _ _ e))
flat-case-payload (case_with u cs) m fs (suc n) t e = flat-case-payload cs m fs n t e

-- a list whose block is one of the memory, and one whose block is not
pub list-asked-open : (read : ℕ → Result Value TrapKind) (ask : ℕ → List Trace.Request) (m : List ℕ) (start n al sz al' sz' : ℕ) → al ≡ al' → sz ≡ sz' → block_at m start al (n * sz) ≡ Ok start
    → list_asked read ask m al' sz' start n ≡ request al (n * sz) ∷ each_asked read ask sz start n
list-asked-open read ask m start n al sz al' sz' e1 e2 h = rw (← e1, ← e2, h) refl

pub list-asked-shut : (read : ℕ → Result Value TrapKind) (ask : ℕ → List Trace.Request) (m : List ℕ) (start n al sz al' sz' : ℕ) (k : TrapKind) → al ≡ al' → sz ≡ sz' → block_at m start al (n * sz) ≡ Err k
    → list_asked read ask m al' sz' start n ≡ []
list-asked-shut read ask m start n al sz al' sz' k e1 e2 h = rw (← e1, ← e2, h) refl

-- ---- the limit

-- After a part that is read, so much is left of what the rest asks for: of `l` bytes `k` were left before the part, and `k2` after it.
pub limit-goes-on : (part : Result Value TrapKind) (v : Value) (f : Value → List Trace.Request) (now ps rest : List Trace.Request) (k k2 l w : ℕ)
    → now ≡ ps ++ then_asked part rest → part ≡ Ok v → ps ≡ f v → k ≡ k2 + total (f v) → k + w ≡ l + total now → k2 + w ≡ l + total rest
limit-goes-on part v f now ps rest k k2 l w is e asks spent left =
    omega (arith, spent, left, ap total is, total-append ps (then_asked part rest), ap total asks, ap (λ (r : Result Value TrapKind). total (then_asked r rest)) e)

-- what stops a part stops the whole at the same limit
pub limit-stops : (part : Result Value TrapKind) (f : Value → List Trace.Request) (ws now ps rest : List Trace.Request) (k l : ℕ)
    → now ≡ ps ++ then_asked part rest → k + total ws ≡ l + total now → (e : Untold) → Stops part f k e → MeetsLimit ps k e → MeetsLimit ws l e
limit-stops part f ws now ps rest k l is left (untold.Fault j) stops within =
    omega (arith, left, ap total is, total-append ps (then_asked part rest), ap (λ (r : Result Value TrapKind). total (then_asked r rest)) stops, within)
limit-stops part f ws now ps rest k l is left untold.AboveLimit stops above = omega (arith, left, ap total is, total-append ps (then_asked part rest), above)

-- the same of requests that are as many bytes
pub limit-as : {X : Type 0} (ps ws : List Trace.Request) (l : ℕ) → ps ≡ ws → (r : Result X Untold) → TellsLimit ps l r → TellsLimit ws l r
limit-as ps ws l e r h = subst (λ (rs : List Trace.Request). TellsLimit rs l r) e h
