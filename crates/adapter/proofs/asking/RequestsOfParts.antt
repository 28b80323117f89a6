-- Requests that are told one after another, and what values ask for, part by part.
use Rattle.std.proofs.Common.{◌≡◌, ◌⊎◌, inl, inr, ℕ, Bool, true, false, zero, suc, ◌+◌, ◌-◌, ◌*◌, ◌^◌, ◌≤◌, ◌<◌, List, [], ◌∷◌, ◌++◌, length, map, drop, get_or, Some, None, Result, Ok, Err, slice_set, slice_range, refl, sym, ap, ◌∙◌, subst, append_assoc, append-nil, length-append, length-take, length-drop, arith}
use Rattle.std.specs.Prelude.{min}
use Rattle.std.specs.Char.{IsScalar}
use Rattle.std.proofs.lemmas.Bool.Decides.{nat_tests}
use Rattle.std.proofs.lemmas.Option.{same_Some}
use Rattle.canonical_abi.specs.Types.{scalar_value, ClosedType, Fields, no_field, field, Cases, no_case, plain_case, case_with, nth_field, field_count, nth_case, list_type, record_type, string_type, prim_type, flags_type}
use Rattle.canonical_abi.specs.Values.{Value, values_of, is_scalar, char_value, string_value, list_value, record_value}
use Rattle.canonical_abi.specs.Layout.{align, size, prim_width}
use Rattle.canonical_abi.specs.Memory.{TextHolds}
use Rattle.std.specs.Str.{is_utf8}
use Rattle.lift_lower.proofs.TextsAndBlocksStand.{text-stands, text-fault}
use Rattle.canonical_abi.specs.declared.trap.TrapKind.TheVariants as trap
use Rattle.canonical_abi.specs.Reading.{text_at, reading, number_at, ◌>>=◌, each_at, read_prim, number_of, reading_fields, lifting, lifting_fields}
use Rattle.canonical_abi.specs.Requests.{text_of_value, request, requests, each_request, fields_requests, case_requests}
use Rattle.canonical_abi.specs.Trace
use Rattle.canonical_abi.specs.declared.flat.Flat.{Flat}
use Rattle.canonical_abi.specs.declared.trap.TrapKind.{TrapKind}
use Rattle.canonical_abi.proofs.StoredValues.AsksRequests.{items-of}
use Rattle.adapter.specs.Asking.{slot, over, total, IsTold, Stops, Asks, AsksNothing}
use Rattle.adapter.specs.declared.asking.request.Request.{Request}
use Rattle.adapter.specs.declared.asking.request.Untold.{Untold}
use Rattle.adapter.specs.declared.asking.request.Untold.TheVariants as untold
use Rattle.tables.specs.Closed
use Rattle.tables.specs.declared.tables.Primitive.{Primitive}
use Rattle.tables.specs.declared.tables.Primitive.TheVariants as primitive
use Rattle.lift_lower.proofs.ListsAreLoaded.{listed}
use Rattle.lift_lower.proofs.ReadingStepByStep.{with_front, each-more, each-fault, fields-more, fields-fault}
use Rattle.lift_lower.proofs.LiftingStepByStep.{lifting-more, lifting-fault}
use Rattle.values.proofs.FieldsFromAPlace.{fields_from, fields-next, fields-last}
use Rattle.std.specs.Int.{next_multiple_of}

-- ---- slots

over-none : (xs : List Request) (n : ℕ) → over xs n [] ≡ xs
over-none [] n = refl
over-none (x ∷ xs) zero = refl
over-none (x ∷ xs) (suc n) = ap (λ l. x ∷ l) (over-none xs n)

over-length : (xs : List Request) (n : ℕ) (rs : List Trace.Request) → length (over xs n rs) ≡ length xs
over-length [] n rs = refl
over-length (x ∷ xs) zero [] = refl
over-length (x ∷ xs) zero (r ∷ rs) = ap suc (over-length xs zero rs)
over-length (x ∷ xs) (suc n) rs = ap suc (over-length xs n rs)

over-past : (xs : List Request) (n : ℕ) (rs : List Trace.Request) → length xs ≤ n → over xs n rs ≡ xs
over-past [] n rs h = refl
over-past (x ∷ xs) zero rs h = absurd (omega arith)
over-past (x ∷ xs) (suc n) rs h = ap (λ l. x ∷ l) (over-past xs n rs (omega arith))

over-more : (xs : List Request) (n : ℕ) (rs ss : List Trace.Request) (m : ℕ) → m ≡ n + length rs → over (over xs n rs) m ss ≡ over xs n (rs ++ ss)
over-more [] n rs ss m e = refl
over-more (x ∷ xs) zero [] ss m e = let z : m ≡ 0 = omega arith in ap (λ k. over (x ∷ xs) k ss) z
over-more (x ∷ xs) zero (r ∷ rs) ss zero e = absurd (omega arith)
over-more (x ∷ xs) zero (r ∷ rs) ss (suc m) e = ap (λ l. slot r ∷ l) (over-more xs zero rs ss m (omega arith))
over-more (x ∷ xs) (suc n) rs ss zero e = absurd (omega arith)
over-more (x ∷ xs) (suc n) rs ss (suc m) e = ap (λ l. x ∷ l) (over-more xs n rs ss m (omega arith))

over-one : (xs : List Request) (n : ℕ) (r : Trace.Request) → n < length xs → slice_set xs n (slot r) ≡ over xs n (r ∷ [])
over-one [] n r h = absurd (omega arith)
over-one (x ∷ xs) zero r h = ap (λ l. slot r ∷ l) (sym (over-none xs zero))
over-one (x ∷ xs) (suc n) r h = ap (λ l. x ∷ l) (over-one xs n r (omega arith))

-- ---- telling

pub total-append : (rs ss : List Trace.Request) → total (rs ++ ss) ≡ total rs + total ss
total-append [] ss = omega arith
total-append (r ∷ rs) ss = omega (arith, total-append rs ss)

pub told-none : (xs : List Request) (n l : ℕ) → IsTold xs n l [] xs n l
told-none xs n l = record { told = sym (over-none xs n); counted = omega arith; spent = omega arith }

pub told-one : (xs : List Request) (n l : ℕ) (r : Trace.Request) (c l2 : ℕ) (new : List Request) → ((n < length xs) × (new ≡ slice_set xs n (slot r))) ⊎ ((length xs ≤ n) × (new ≡ xs))
    → min c (2 ^ 64 - 1) ≡ min (n + 1) (2 ^ 64 - 1) → l ≡ l2 + r.size → IsTold xs n l (r ∷ []) new c l2
told-one xs n l r c l2 new (inl (less, is)) counts takes = record { told = is ∙ over-one xs n r less; counted = counts; spent = omega (arith, takes) }
told-one xs n l r c l2 new (inr (past, is)) counts takes = record { told = is ∙ sym (over-past xs n (r ∷ []) past); counted = counts; spent = omega (arith, takes) }

pub by-or : (a b : ℕ) → (a < b) ⊎ (b ≤ a)
by-or zero zero = inr (omega arith)
by-or zero (suc b) = inl (omega arith)
by-or (suc a) zero = inr (omega arith)
by-or (suc a) (suc b) = elim (by-or a b) [ inl h ↦ inl (omega arith) | inr h ↦ inr (omega arith) ]

pub told-both : (xs : List Request) (n l : ℕ) (rs ss : List Trace.Request) (ys zs : List Request) (c k d l2 : ℕ) → length xs < 2 ^ 64
    → IsTold xs n l rs ys c k → IsTold ys c k ss zs d l2 → IsTold xs n l (rs ++ ss) zs d l2
told-both xs n l rs ss ys zs c k d l2 few a b = record {
  told = b.told ∙ ap (λ l. over l c ss) a.told ∙ by (by-or (n + length rs) (2 ^ 64 - 1));
  counted = omega (arith, a.counted, b.counted, length-append rs ss);
  spent = omega (arith, a.spent, b.spent, total-append rs ss);
}
  where
    by : (n + length rs < 2 ^ 64 - 1) ⊎ (2 ^ 64 - 1 ≤ n + length rs) → over (over xs n rs) c ss ≡ over xs n (rs ++ ss)
    by (inl h) = over-more xs n rs ss c (omega (arith, a.counted))
    by (inr h) =
        over-past (over xs n rs) c ss (omega (arith, a.counted, over-length xs n rs))
        ∙ sym (over-past (over xs n rs) (n + length rs) ss (omega (arith, over-length xs n rs))) ∙ over-more xs n rs ss (n + length rs) refl

pub told-as : (xs : List Request) (n l : ℕ) (rs ss : List Trace.Request) (ys : List Request) (c l2 : ℕ) → rs ≡ ss → IsTold xs n l rs ys c l2 → IsTold xs n l ss ys c l2
told-as xs n l rs ss ys c l2 e h = subst (λ (rs : List Trace.Request). IsTold xs n l rs ys c l2) e h

-- ---- what values ask for

pub each-asks : (f : Value → List Trace.Request) (vs : List Value) (v : Value) → each_request f vs ++ f v ≡ each_request f (vs ++ v ∷ [])
each-asks f [] v = sym (append-nil (f v))
each-asks f (w ∷ vs) v = append_assoc (f w) (each_request f vs) (f v) ∙ ap (λ l. f w ++ l) (each-asks f vs v)

pub fields-ask-none : (fs : Fields) → fields_requests fs [] ≡ []
fields-ask-none no_field = refl
fields-ask-none (field t fs) = refl

pub fields-ask : (fs : Fields) (vs : List Value) (v : Value) (i : ℕ) (t : ClosedType) → nth_field fs i ≡ Some t → length vs ≡ i → fields_requests fs vs ++ requests t v ≡ fields_requests fs (vs ++ v ∷ [])
fields-ask no_field vs v i t e l = absurd (let n : None ≡ Some t = e in cc)
fields-ask (field u fs) [] v zero t e l =
    let same : u ≡ t = same_Some _ _ e in
    ap (λ w. requests w v) (sym same) ∙ sym (append-nil (requests u v)) ∙ ap (λ l. requests u v ++ l) (sym (fields-ask-none fs))
fields-ask (field u fs) [] v (suc i) t e l = absurd (omega arith)
fields-ask (field u fs) (w ∷ vs) v zero t e l = absurd (omega arith)
fields-ask (field u fs) (w ∷ vs) v (suc i) t e l =
    append_assoc (requests u w) (fields_requests fs vs) (requests t v) ∙ ap (λ l. requests u w ++ l) (fields-ask fs vs v i t e (omega arith))

pub plain-asks : (cs : Cases) (n : ℕ) → nth_case cs n ≡ Some None → case_requests cs n None ≡ []
plain-asks no_case n e = refl
plain-asks (plain_case cs) zero e = refl
plain-asks (plain_case cs) (suc n) e = plain-asks cs n e
plain-asks (case_with t cs) zero e = refl
plain-asks (case_with t cs) (suc n) e = plain-asks cs n e

pub payload-asks : (cs : Cases) (n : ℕ) (t : ClosedType) (w : Value) → nth_case cs n ≡ Some (Some t) → requests t w ≡ case_requests cs n (Some w)
payload-asks no_case n t w e = cc
payload-asks (plain_case cs) zero t w e = cc
payload-asks (plain_case cs) (suc n) t w e = payload-asks cs n t w e
payload-asks (case_with u cs) zero t w e = ap (λ x. requests x w) (sym (same_Some _ _ (same_Some _ _ e)))
payload-asks (case_with u cs) (suc n) t w e = payload-asks cs n t w e

-- ---- why it wasn't told

pub ok-inj : {A : Type 0} {x y : A} → ◌≡◌ {A = Result A TrapKind} (Ok x) (Ok y) → x ≡ y
ok-inj e = cc

pub err-ok : {A : Type 0} {x : A} {y : TrapKind} → ◌≡◌ {A = Result A TrapKind} (Err y) (Ok x) → ⊥
err-ok e = cc

pub bind-ok : {A B : Type 0} (r : Result A TrapKind) (k : A → Result B TrapKind) (b : B) → (r >>= k) ≡ Ok b → (v : A) × (r ≡ Ok v) × (k v ≡ Ok b)
bind-ok (Ok v) k b e = (v, refl, e)
bind-ok (Err j) k b e = absurd (err-ok e)

-- what stops a part stops the whole, where so much was asked for before it
pub stops : {A B : Type 0} (part : Result A TrapKind) (whole : Result B TrapKind) (f : A → List Trace.Request) (g : B → List Trace.Request) (before k l : ℕ)
    → ((j : TrapKind) → part ≡ Err j → whole ≡ Err j) → ((b : B) → whole ≡ Ok b → (v : A) × (part ≡ Ok v) × (before + total (f v) ≤ total (g b)))
    → l ≡ k + before → (e : Untold) → Stops part f k e → Stops whole g l e
stops part whole f g before k l faults reads is (untold.Fault j) h = faults j h
stops part whole f g before k l faults reads is untold.AboveLimit h = λ b e. let (v, p, q) = reads b e in omega (arith, h v p, q, is)

front-of : (front : List Value) (rest : Result (List Value) TrapKind) (bs : List Value) → with_front front rest ≡ Ok bs → (ws : List Value) × (bs ≡ front ++ ws)
front-of front (Ok ws) bs e = (ws, sym (ok-inj e))
front-of front (Err k) bs e = absurd (err-ok e)

front-ok : (part : Result Value TrapKind) (whole : Result (List Value) TrapKind) (front bs : List Value) → whole ≡ Ok bs → ((k : TrapKind) → part ≡ Err k → whole ≡ Err k)
    → ((v : Value) → part ≡ Ok v → (rest : Result (List Value) TrapKind) × (with_front (front ++ v ∷ []) rest ≡ whole)) → (v : Value) × (part ≡ Ok v) × (ws : List Value) × (bs ≡ (front ++ v ∷ []) ++ ws)
front-ok (Err k) whole front bs e faults more = absurd (err-ok (sym (faults k refl) ∙ e))
front-ok (Ok v) whole front bs e faults more =
    let (rest, w) = more v refl in
    let (ws, s) = front-of (front ++ v ∷ []) rest bs (w ∙ e) in
    (v, refl, ws, s)

each-grows : (f : Value → List Trace.Request) (xs ys : List Value) → total (each_request f xs) ≤ total (each_request f (xs ++ ys))
each-grows f [] ys = omega arith
each-grows f (x ∷ xs) ys = omega (arith, total-append (f x) (each_request f xs), total-append (f x) (each_request f (xs ++ ys)), each-grows f xs ys)

fields-grow : (fs : Fields) (xs ys : List Value) → total (fields_requests fs xs) ≤ total (fields_requests fs (xs ++ ys))
fields-grow no_field xs ys = omega arith
fields-grow (field t fs) [] ys = omega arith
fields-grow (field t fs) (x ∷ xs) ys = omega (arith, total-append (requests t x) (fields_requests fs xs), total-append (requests t x) (fields_requests fs (xs ++ ys)), fields-grow fs xs ys)

-- one of many is stopped: `h` says how the requests of all go on with it
pub one-stops : (part : Result Value TrapKind) (whole : Result (List Value) TrapKind) (f : Value → List Trace.Request) (g : List Value → List Trace.Request) (front : List Value) (k l : ℕ)
    → ((j : TrapKind) → part ≡ Err j → whole ≡ Err j) → ((v : Value) → part ≡ Ok v → (rest : Result (List Value) TrapKind) × (with_front (front ++ v ∷ []) rest ≡ whole))
    → ((v : Value) → g front ++ f v ≡ g (front ++ v ∷ [])) → ((xs ys : List Value) → total (g xs) ≤ total (g (xs ++ ys)))
    → l ≡ k + total (g front) → (e : Untold) → Stops part f k e → Stops whole g l e
one-stops part whole f g front k l faults more next grows is = stops part whole f g (total (g front)) k l faults
    (λ b e. let (v, p, ws, s) = front-ok part whole front b e faults more in
    (v, p, omega (arith, ap (λ b. total (g b)) s, grows (front ++ v ∷ []) ws, total-append (g front) (f v), ap total (next v))))
    is

pub each-stops : (f : ℕ → Result Value TrapKind) (g : Value → List Trace.Request) (step a n i : ℕ) (vs : List Value) (whole : Result (List Value) TrapKind) (k l : ℕ) → i < n
    → with_front vs (each_at f step (a + i * step) (n - i)) ≡ whole → l ≡ k + total (each_request g vs) → (e : Untold) → Stops (f (a + i * step)) g k e → Stops whole (each_request g) l e
each-stops f g step a n i vs whole k l h w = one-stops (f (a + i * step)) whole g (each_request g) vs k l (each-fault f step a n i vs whole h w)
    (λ v e. (_, each-more f step a n i vs whole h w v e)) (each-asks g vs) (each-grows g)

pub fields-stop : (fs : Fields) (m : List ℕ) (a from i : ℕ) (t : ClosedType) (vs : List Value) (whole : Result (List Value) TrapKind) (k l : ℕ) → nth_field fs i ≡ Some t → length vs ≡ i
    → with_front vs (reading_fields (fields_from i fs) m a from) ≡ whole → l ≡ k + total (fields_requests fs vs)
    → (e : Untold) → Stops (reading t m (a + next_multiple_of from (align t))) (requests t) k e → Stops whole (fields_requests fs) l e
fields-stop fs m a from i t vs whole k l found n w = one-stops (reading t m (a + next_multiple_of from (align t))) whole (requests t) (fields_requests fs) vs k l (fields-fault fs m a from i t vs whole found w)
    (λ v e. (_, fields-more fs m a from i t vs whole found w v e)) (λ v. fields-ask fs vs v i t found n) (fields-grow fs)

pub lifting-stops : (fs : Fields) (m ns : List ℕ) (i used : ℕ) (t : ClosedType) (vs : List Value) (whole : Result (List Value) TrapKind) (k l : ℕ) → nth_field fs i ≡ Some t → length vs ≡ i
    → with_front vs (lifting_fields (fields_from i fs) m (drop used ns)) ≡ whole → l ≡ k + total (fields_requests fs vs)
    → (e : Untold) → Stops (lifting t m (drop used ns)) (requests t) k e → Stops whole (fields_requests fs) l e
lifting-stops fs m ns i used t vs whole k l found n w = one-stops (lifting t m (drop used ns)) whole (requests t) (fields_requests fs) vs k l (lifting-fault fs m ns i used t vs whole found w)
    (λ v e. (_, lifting-more fs m ns i used t vs whole found w v e)) (λ v. fields-ask fs vs v i t found n) (fields-grow fs)

-- ---- what is read, made into more

pub asks-made : {A B : Type 0} (make : A → B) (read : Result A TrapKind) (whole : Result B TrapKind) (f : A → List Trace.Request) (g : B → List Trace.Request)
    → whole ≡ (read >>= λ v. Ok (make v)) → ((v : A) → f v ≡ g (make v)) → (old : List Request) (n l : ℕ) (r : Result (Unit {0}) Untold) (new : List Request) (c l2 : ℕ)
    → Asks read f old n l r new c l2 → Asks whole g old n l r new c l2
asks-made {A = A} make read whole f g is same old n l (Ok u) new c l2 (v, e, told) =
    (make v, is ∙ ap (λ (r : Result A TrapKind). r >>= λ v. Ok (make v)) e, told-as old n l (f v) (g (make v)) new c l2 (same v) told)
asks-made {A = A} make read whole f g is same old n l (Err k) new c l2 h =
    stops read whole f g 0 l l (λ j e. is ∙ ap (λ (r : Result A TrapKind). r >>= λ v. Ok (make v)) e)
    (λ b e. let (v, p, q) = bind-ok read (λ v. Ok (make v)) b (sym is ∙ e) in (v, p, omega (arith, ap total (same v), ap (λ b. total (g b)) (ok-inj q)))) (omega arith) k h

pub each-length : (f : ℕ → Result Value TrapKind) (step a n : ℕ) (vs : List Value) → each_at f step a n ≡ Ok vs → length vs ≡ n
each-length f step a zero vs e = ap length (sym (ok-inj e))
each-length f step a (suc n) vs e =
    let (v, p, q) = bind-ok (f a) (λ v. each_at f step (a + step) n >>= λ vs. Ok (v ∷ vs)) vs e in
    let (ws, r, s) = bind-ok (each_at f step (a + step) n) (λ vs. Ok (v ∷ vs)) vs q in
    ap length (sym (ok-inj s)) ∙ ap suc (each-length f step (a + step) n ws r)

pub list-told : (t : ClosedType) (vs : List Value) (n al sz : ℕ) → al ≡ align t → sz ≡ size t → length vs ≡ n
    → (request al (n * sz) ∷ []) ++ each_request (requests t) vs ≡ requests (list_type t) (list_value (values_of vs))
list-told t vs n al sz a s l = rw (a, s, ← l, items-of vs) refl

list-read : (t : ClosedType) (f : ℕ → Result Value TrapKind) (a n al sz : ℕ) → al ≡ align t → sz ≡ size t → (b : Value) → listed (each_at f sz a n) ≡ Ok b
    → (vs : List Value) × (each_at f sz a n ≡ Ok vs) × (n * sz + total (each_request (requests t) vs) ≡ total (requests (list_type t) b))
list-read t f a n al sz h1 h2 b e =
    let (vs, p, q) = bind-ok (each_at f sz a n) (λ vs. Ok (list_value (values_of vs))) b e in
    (vs, p, ap total (list-told t vs n al sz h1 h2 (each-length f sz a n vs p)) ∙ ap (λ b. total (requests (list_type t) b)) (ok-inj q))

-- a list is stopped by its elements, or by its own block
pub list-stops : (t : ClosedType) (f : ℕ → Result Value TrapKind) (a n al sz k l : ℕ) (whole : Result Value TrapKind) → al ≡ align t → sz ≡ size t → whole ≡ listed (each_at f sz a n) → l ≡ k + n * sz
    → (e : Untold) → Stops (each_at f sz a n) (each_request (requests t)) k e → Stops whole (requests (list_type t)) l e
list-stops t f a n al sz k l whole h1 h2 opened is = stops (each_at f sz a n) whole (each_request (requests t)) (requests (list_type t)) (n * sz) k l
    (λ j e. opened ∙ ap listed e) (λ b e. let (vs, p, q) = list-read t f a n al sz h1 h2 b (sym opened ∙ e) in (vs, p, omega (arith, q))) is

pub block-stops : (t : ClosedType) (f : ℕ → Result Value TrapKind) (a n al sz l : ℕ) (whole : Result Value TrapKind) → al ≡ align t → sz ≡ size t → whole ≡ listed (each_at f sz a n) → l < n * sz
    → Stops whole (requests (list_type t)) l untold.AboveLimit
block-stops t f a n al sz l whole h1 h2 opened less = λ b e. let (vs, p, q) = list-read t f a n al sz h1 h2 b (sym opened ∙ e) in omega (arith, q, less)

-- a text that is read has as many bytes as it was read for
pub text-length : (m : List ℕ) (a n : ℕ) (v : Value) → TextHolds m a n v → length (text_of_value v) ≡ n
text-length m a n v h = ap (λ v. length (text_of_value v)) h.2 ∙ omega (arith, length-take (a + n - a) (drop a m), length-drop a m, h.0)

pub by-bool : (b : Bool) → (b ≡ true) ⊎ (b ≡ false)
by-bool true = inl refl
by-bool false = inr refl

pub text-read : (m : List ℕ) (a n : ℕ) (v : Value) → text_at m a n ≡ Ok v → (length m < a + n) ⊎ (a + n ≤ length m) → (is_utf8 (slice_range m a (a + n)) ≡ true) ⊎ (is_utf8 (slice_range m a (a + n)) ≡ false)
    → length (text_of_value v) ≡ n
text-read m a n v e (inl h) u = absurd (err-ok (sym (text-fault m a n trap.Bounds (inl (h, refl))) ∙ e))
text-read m a n v e (inr h) (inr u) = absurd (err-ok (sym (text-fault m a n trap.Utf8 (inr (h, u, refl))) ∙ e))
text-read m a n v e (inr h) (inl u) =
    let s = string_value (slice_range m a (a + n)) in
    ap (λ v. length (text_of_value v)) (ok-inj (sym e ∙ text-stands m a n s (h, u, refl))) ∙ text-length m a n s (h, u, refl)

pub text-stops : (m : List ℕ) (a n l : ℕ) → l < n → Stops (text_at m a n) (requests string_type) l untold.AboveLimit
text-stops m a n l less = λ v e. omega (arith, text-read m a n v e (by-or (length m) (a + n)) (by-bool (is_utf8 (slice_range m a (a + n)))), less)

pub record-told : (fs : Fields) (vs : List Value) → fields_requests fs vs ≡ requests (record_type fs) (record_value (values_of vs))
record-told fs vs = ap (fields_requests fs) (sym (items-of vs))

-- ---- primitives

pub reads-number : (p : Primitive) (n : ℕ) → (p ≡ primitive.Char → ⊥) → (v : Value) × (read_prim (Closed.prim_of p) n ≡ Ok v)
reads-number primitive.Bool n h = (_, refl)
reads-number primitive.S8 n h = (_, refl)
reads-number primitive.U8 n h = (_, refl)
reads-number primitive.S16 n h = (_, refl)
reads-number primitive.U16 n h = (_, refl)
reads-number primitive.S32 n h = (_, refl)
reads-number primitive.U32 n h = (_, refl)
reads-number primitive.S64 n h = (_, refl)
reads-number primitive.U64 n h = (_, refl)
reads-number primitive.Char n h = absurd (h refl)

pub front-none : (r : Result (List Value) TrapKind) → with_front [] r ≡ r
front-none (Ok vs) = refl
front-none (Err k) = refl

pub scalar-true : (n : ℕ) → IsScalar n → is_scalar n ≡ true
scalar-true n h = grind (arith, nat_tests, h)

pub reads-char : (n : ℕ) → is_scalar n ≡ true → read_prim scalar_value n ≡ Ok (char_value n)
reads-char n h = rw h refl

pub first-number : (flats : List Flat) (d : Flat) → 0 < length flats → get_or (map number_of flats) 0 0 ≡ number_of (get_or flats 0 d)
first-number [] d h = absurd (omega arith)
first-number (x ∷ flats) d h = refl

pub each-start : (f : ℕ → Result Value TrapKind) (step a n : ℕ) → with_front [] (each_at f step (a + 0 * step) (n - 0)) ≡ each_at f step a n
each-start f step a n =
    let here : a + 0 * step ≡ a = omega arith in
    let all : n - 0 ≡ n = omega arith in
    front-none (each_at f step (a + 0 * step) (n - 0)) ∙ rw (here, all) refl

-- ---- types that ask for nothing

pub plain-asks-nothing : (p : Primitive) → (p ≡ primitive.Char → ⊥) → AsksNothing (prim_type (Closed.prim_of p))
plain-asks-nothing p h m a = let (v, e) = reads-number p (number_at m a (prim_width (Closed.prim_of p))) h in (v, e, refl)

pub flags-ask-nothing : (n : ℕ) → AsksNothing (flags_type n)
flags-ask-nothing n m a = (_, refl, refl)

-- all of these fields ask for nothing
abbrev pub AskNothing : Fields → Type 0
AskNothing no_field = Unit {0}
AskNothing (field t fs) = AsksNothing t × AskNothing fs

fields-ask-nothing : (fs : Fields) (m : List ℕ) (a from : ℕ) → AskNothing fs → (vs : List Value) × (reading_fields fs m a from ≡ Ok vs) × (fields_requests fs vs ≡ [])
fields-ask-nothing no_field m a from h = ([], refl, refl)
fields-ask-nothing (field t fs) m a from h =
    let (v, e, none) = h.0 m (a + next_multiple_of from (align t)) in
    let (vs, es, nones) = fields-ask-nothing fs m a (next_multiple_of from (align t) + size t) h.1 in
    (v ∷ vs, rw (e, es) refl, rw (none, nones) refl)

pub record-asks-nothing : (fs : Fields) → AskNothing fs → AsksNothing (record_type fs)
record-asks-nothing fs h m a =
    let (vs, e, none) = fields-ask-nothing fs m a 0 h in
    (record_value (values_of vs), rw e refl, sym (record-told fs vs) ∙ none)

-- a field and those behind it, as the fields from its place on
pub nothing-more : (fs : Fields) (i : ℕ) (t : ClosedType) → nth_field fs i ≡ Some t → AsksNothing t → (AskNothing (fields_from i fs) → AskNothing fs) → AskNothing (fields_from (i + 1) fs) → AskNothing fs
nothing-more fs i t found one all h = all (subst AskNothing (sym (fields-next fs i t found)) (one, h))

pub nothing-all : (fs : Fields) (i : ℕ) → field_count fs ≡ i → (AskNothing (fields_from i fs) → AskNothing fs) → AskNothing fs
nothing-all fs i counted all = all (subst AskNothing (sym (fields-last fs i counted)) tt)

-- so many of them are read, and ask for nothing
pub nothing-asked : (t : ClosedType) (m : List ℕ) → AsksNothing t → (step a n : ℕ)
    → (vs : List Value) × (each_at (reading t m) step a n ≡ Ok vs) × (length vs ≡ n) × (each_request (requests t) vs ≡ [])
nothing-asked t m h step a zero = ([], refl, refl, refl)
nothing-asked t m h step a (suc n) =
    let (v, e, none) = h m a in
    let (vs, es, l, nones) = nothing-asked t m h step (a + step) n in
    (v ∷ vs, rw (e, es) refl, ap suc l, rw (none, nones) refl)
