-- A list of scalars is stored by one write of all their bytes as by a write for each.
use Rattle.std.proofs.Common.{◌≡◌, ℕ, zero, suc, ◌+◌, ◌-◌, ◌*◌, ◌<◌, ◌≤◌, List, [], ◌∷◌, ◌++◌, length, map, take, drop, get_or, refl, sym, ap, ◌∙◌, subst, append_assoc, append-nil, arith, add-one}
use Rattle.std.specs.Int.{Width, to_le_bytes, byte_len}
use Rattle.std.specs.List.{AllByRecursion}
use Rattle.std.proofs.Math.Seq.{take-append-add, take-append_seam, drop-append-add}
use Rattle.std.proofs.lemmas.List.{length-append, length-take-le, take-append-drop, take-map, drop-map}
use Rattle.canonical_abi.specs.Guest.{Memory, Allocation, overwrite, with_bytes}
use Rattle.canonical_abi.specs.Types.{Prim, prim_type}
use Rattle.canonical_abi.specs.Values.{Value, HasType}
use Rattle.canonical_abi.specs.Layout.{size, prim_width}
use Rattle.canonical_abi.specs.Storing.{number_in, EachStores, Stores}
use Rattle.canonical_abi.specs.Trace.{Event, node, write, EventLeads, TraceLeads, AreGrantsWithin}
use Rattle.canonical_abi.proofs.Traces.BytesWrittenOver.{length-overwrite, length-le_bytes}
use Rattle.lift_lower.specs.ScalarLists.{bytes_of_scalars}
use Rattle.lift_lower.specs.Scripts.{IsDone}

-- ---- bytes over bytes

drop-more : (k n : ℕ) (m : List ℕ) → drop n (drop k m) ≡ drop (k + n) m
drop-more zero n m = let e : zero + n ≡ n = omega arith in ap (λ x. drop x m) (sym e)
drop-more (suc k) zero [] = let e : suc k + 0 ≡ suc (k + 0) = omega arith in rw e refl
drop-more (suc k) (suc n) [] = let e : suc k + suc n ≡ suc (k + suc n) = omega arith in rw e refl
drop-more (suc k) n (x ∷ m) = let e : suc k + n ≡ suc (k + n) = omega arith in rw e (drop-more k n m)

module _ (m : List ℕ) (a : ℕ) (p : List ℕ) (fits : a + length p ≤ length m) where
  front : length (take a m) ≡ a
  front = length-take-le a m (omega arith)

  -- what was written, with what stands before it
  pub take-over : take (a + length p) (overwrite m a p) ≡ take a m ++ p
  take-over =
      ap (λ n. take (n + length p) (overwrite m a p)) (sym front) ∙ take-append-add (take a m) (p ++ drop (a + length p) m) (length p)
      ∙ ap (λ l. take a m ++ l) (take-append_seam p (drop (a + length p) m))

  drop-over : (n : ℕ) → drop (a + length p + n) (overwrite m a p) ≡ drop (a + length p + n) m
  drop-over n =
      let e : a + length p + n ≡ length (take a m) + (length p + n) = omega (arith, front) in
      ap (λ k. drop k (overwrite m a p)) e ∙ drop-append-add (take a m) (p ++ drop (a + length p) m) (length p + n)
      ∙ drop-append-add p (drop (a + length p) m) n ∙ drop-more (a + length p) n m

-- two writes, one after the other, are one
pub overwrite-both : (m : List ℕ) (a : ℕ) (p q : List ℕ) → a + length p + length q ≤ length m → overwrite (overwrite m a p) (a + length p) q ≡ overwrite m a (p ++ q)
overwrite-both m a p q fits =
    let there : a + length p ≤ length m = omega arith in
    let end : a + length p + length q ≡ a + length (p ++ q) = omega (arith, length-append p q) in
    ap (λ l. l ++ (q ++ drop (a + length p + length q) (overwrite m a p))) (take-over m a p there)
    ∙ ap (λ l. (take a m ++ p) ++ (q ++ l)) (drop-over m a p there (length q) ∙ ap (λ k. drop k m) end)
    ∙ append_assoc (take a m) p (q ++ drop (a + length (p ++ q)) m)
    ∙ ap (λ l. take a m ++ l) (sym (append_assoc p q (drop (a + length (p ++ q)) m)))

overwrite-none : (m : List ℕ) (a : ℕ) → overwrite m a [] ≡ m
overwrite-none m a = let e : a + 0 ≡ a = omega arith in ap (λ k. take a m ++ drop k m) e ∙ take-append-drop a m

-- ---- the bytes of scalars

pub bytes-both : (w : Width) (us vs : List Value) → bytes_of_scalars w (us ++ vs) ≡ bytes_of_scalars w us ++ bytes_of_scalars w vs
bytes-both w [] vs = refl
bytes-both w (u ∷ us) vs = ap (λ l. to_le_bytes w (number_in w u) ++ l) (bytes-both w us vs) ∙ sym (append_assoc (to_le_bytes w (number_in w u)) (bytes_of_scalars w us) (bytes_of_scalars w vs))

pub bytes-count : (w : Width) (vs : List Value) → length (bytes_of_scalars w vs) ≡ length vs * byte_len w
bytes-count w [] = let e : 0 * byte_len w ≡ 0 = omega arith in sym e
bytes-count w (v ∷ vs) =
    let e : suc (length vs) * byte_len w ≡ byte_len w + length vs * byte_len w = omega arith in
    omega (arith, e, length-append (to_le_bytes w (number_in w v)) (bytes_of_scalars w vs), length-le_bytes w (number_in w v), bytes-count w vs)

take-more : (i : ℕ) (vs : List Value) (e : Value) → i < length vs → take (i + 1) vs ≡ take i vs ++ (get_or vs i e ∷ [])
take-more i [] e below = absurd (omega arith)
take-more zero (v ∷ vs) e below = refl
take-more (suc i) (v ∷ vs) e below = rw add-one (ap (λ l. v ∷ l) (rw add-one at (take-more i vs e (omega arith))))

take-nil : (n : ℕ) → [] ≡ take {A = Value} n []
take-nil zero = refl
take-nil (suc n) = refl

take-both : (i j : ℕ) (vs : List Value) → i ≤ j → take j vs ≡ take i vs ++ take (j - i) (drop i vs)
take-both zero j vs h = let e : j - 0 ≡ j = omega arith in ap (λ n. take n vs) (sym e)
take-both (suc i) zero vs h = absurd (omega (arith, h))
take-both (suc i) (suc j) [] h = take-nil (suc j - suc i)
take-both (suc i) (suc j) (v ∷ vs) h = let e : suc j - suc i ≡ j - i = omega arith in rw e (ap (λ l. v ∷ l) (take-both i j vs (omega (arith, h))))

-- one more in a buffer
pub fill-more : (w : Width) (i step : ℕ) (buffer : List ℕ) (vs : List Value) (v : Value) → step ≡ byte_len w → i < length vs → get_or vs i v ≡ v → i * step + byte_len w ≤ length buffer
    → take (i * step) buffer ≡ bytes_of_scalars w (take i vs)
    → take ((i + 1) * step) (overwrite buffer (i * step) (to_le_bytes w (number_in w v))) ≡ bytes_of_scalars w (take (i + 1) vs)
fill-more w i step buffer vs v is below here fits so =
    let p = to_le_bytes w (number_in w v) in
    let long : length p ≡ byte_len w = length-le_bytes w (number_in w v) in
    let end : (i + 1) * step ≡ i * step + length p = omega (arith, long, is) in
    let one : take (i + 1) vs ≡ take i vs ++ (v ∷ []) = take-more i vs v below ∙ ap (λ u. take i vs ++ (u ∷ [])) here in
    ap (λ n. take n (overwrite buffer (i * step) p)) end ∙ take-over buffer (i * step) p (omega (arith, long, fits))
    ∙ ap (λ l. l ++ p) so ∙ ap (λ l. bytes_of_scalars w (take i vs) ++ l) (sym (append-nil p)) ∙ sym (bytes-both w (take i vs) (v ∷ [])) ∙ ap (bytes_of_scalars w) (sym one)

-- ---- one write, and a write for each

module _ (limit : ℕ) (allocates : Allocation) (p : Prim) where
  each-leads : (vs : List Value) (start : ℕ) (old : Memory) → AllByRecursion (λ v. HasType v (prim_type p)) vs → start + length (bytes_of_scalars (prim_width p) vs) ≤ length old.bytes
      → (es : List Event) × EachStores (Stores (prim_type p)) (size (prim_type p)) start vs es × AreGrantsWithin limit es
      × TraceLeads allocates old es (with_bytes old (overwrite old.bytes start (bytes_of_scalars (prim_width p) vs)))
  each-leads [] start old typed fits = ([], refl, tt, ap (with_bytes old) (overwrite-none old.bytes start))
  each-leads (v ∷ vs) start old typed fits =
      let w = prim_width p in
      let b = to_le_bytes w (number_in w v) in
      let rest = bytes_of_scalars w vs in
      let long : length b ≡ byte_len w = length-le_bytes w (number_in w v) in
      let mid = with_bytes old (overwrite old.bytes start b) in
      let all : length (b ++ rest) ≡ length b + length rest = length-append b rest in
      let same : length mid.bytes ≡ length old.bytes = length-overwrite old.bytes start b (omega (arith, fits, all)) in
      let next : start + length b ≡ start + size (prim_type p) = ap (λ n. start + n) long in
      let (es, stores, none, leads) = each-leads vs (start + length b) mid typed.1 (omega (arith, fits, all, same)) in (
        node ∷ write start b ∷ es,
        (node ∷ write start b ∷ [], es, refl, (typed.0, refl), subst (λ a. EachStores (Stores (prim_type p)) (size (prim_type p)) a vs es) next stores),
        none,
        (old, refl, (mid, (omega (arith, fits, all), refl), subst (λ l. TraceLeads allocates mid es (with_bytes old l)) (overwrite-both old.bytes start b rest (omega (arith, fits, all))) leads)),
      )

  pub scalars-stored : (vs : List Value) (start : ℕ) (old new : Memory) → AllByRecursion (λ v. HasType v (prim_type p)) vs
      → EventLeads allocates old (write start (bytes_of_scalars (prim_width p) vs)) new → IsDone limit allocates (EachStores (Stores (prim_type p)) (size (prim_type p)) start vs) old new
  scalars-stored vs start old new typed (fits, is) =
      let (es, stores, within, leads) = each-leads vs start old typed fits in
      let same : length new.bytes ≡ length old.bytes = ap (λ m. length m.bytes) is ∙ length-overwrite old.bytes start (bytes_of_scalars (prim_width p) vs) fits in
      record { events = es; scripted = stores; within = within; leads = subst (λ m. TraceLeads allocates old es m) (sym is) leads; no_shorter = omega (arith, same) }

-- one chunk more
pub chunk-more : (allocates : Allocation) (w : Width) (start : ℕ) (vs : List Value) (done end : ℕ) (old mid new : Memory) → done ≤ end → end ≤ length vs
    → EventLeads allocates old (write start (bytes_of_scalars w (take done vs))) mid
    → EventLeads allocates mid (write (start + done * byte_len w) (bytes_of_scalars w (take (end - done) (drop done vs)))) new
    → EventLeads allocates old (write start (bytes_of_scalars w (take end vs))) new
chunk-more allocates w start vs done end old mid new below inside (fits, is) (fits', is') =
    let front = bytes_of_scalars w (take done vs) in
    let more = bytes_of_scalars w (take (end - done) (drop done vs)) in
    let counted : length front ≡ done * byte_len w = bytes-count w (take done vs) ∙ ap (λ n. n * byte_len w) (length-take-le done vs (omega (arith, below, inside))) in
    let place : start + done * byte_len w ≡ start + length front = omega (arith, counted) in
    let same : length mid.bytes ≡ length old.bytes = ap (λ m. length m.bytes) is ∙ length-overwrite old.bytes start front fits in
    let room : start + length front + length more ≤ length old.bytes = omega (arith, place, same, fits') in
    let both : bytes_of_scalars w (take end vs) ≡ front ++ more = ap (bytes_of_scalars w) (take-both done end vs below) ∙ bytes-both w (take done vs) (take (end - done) (drop done vs)) in
    let whole : new ≡ with_bytes old (overwrite old.bytes start (front ++ more)) =
    is' ∙ ap (λ m. with_bytes m (overwrite m.bytes (start + done * byte_len w) more)) is
    ∙ ap (λ a. with_bytes old (overwrite (overwrite old.bytes start front) a more)) place ∙ ap (with_bytes old) (overwrite-both old.bytes start front more room) in
    rw both (omega (arith, room, length-append front more), whole)

-- ---- what a slice of a list has

pub map-slice : {X : Type 0} (f : X → Value) (k d : ℕ) (xs : List X) → map f (take k (drop d xs)) ≡ take k (drop d (map f xs))
map-slice f k d xs = sym (take-map f k (drop d xs)) ∙ ap (take k) (sym (drop-map f d xs))

pub all-slice : (P : Value → Type 0) (k d : ℕ) (vs : List Value) → AllByRecursion P vs → AllByRecursion P (take k (drop d vs))
all-slice P zero d vs h = tt
all-slice P (suc k) zero [] h = tt
all-slice P (suc k) zero (v ∷ vs) h = (h.0, all-slice P k zero vs h.1)
all-slice P (suc k) (suc d) [] h = tt
all-slice P (suc k) (suc d) (v ∷ vs) h = all-slice P (suc k) d vs h.1

pub same-prim : (p q : Prim) → prim_type p ≡ prim_type q → p ≡ q
same-prim p q e = cc
