-- What is written of a value is read as that value, or a fault of the value is met: combinators. W is what is known of
-- all that is written.
use Rattle.std.proofs.Common.{◌≡◌, ℕ, zero, suc, ◌+◌, ◌*◌, ◌/◌, ◌%◌, ◌^◌, ◌≤◌, Bool, true, false, List, [], ◌∷◌, ◌++◌, length, Option, Some, None, Result, Ok, Err, refl, sym, ap, subst, append_assoc, arith, inl, inr}
use Rattle.std.proofs.Math.Nat.{pow-suc, mod-add-div}
use Rattle.std.proofs.lemmas.Bool.{cases_lt, le-ltb}
use Rattle.atoms.specs.Production.{give, ◌>>=◌, times, run, after, passed_unless}
use Rattle.atoms.specs.declared.error.AtomError.{AtomError}
use Rattle.atoms.specs.declared.error.AtomError.TheVariants as atoms
use Rattle.atoms.specs.Leb128.{Spells, groups_at}
use Rattle.ctype_format.specs.declared.error.Fault.{Fault}
use Rattle.ctype_format.specs.declared.error.Stuck.{Stuck}
use Rattle.ctype_format.specs.declared.error.Stuck.TheVariants.{End, At, Past}
use Rattle.ctype_format.specs.Bytes.{Bytes, byte, several, only_bytes, stuck_if, number, u32, s33, signed_fault, number_from, choose, read_by}
use Rattle.ctype_bin.specs.Exactness.{ExactBytes}
use Rattle.ctype_format.specs.Writing.{u32_bytes, s33_bytes, each, counted}
use Rattle.ctype_format.specs.Formed.{FitsU32, All, Counted}
use Rattle.ctype_bin.specs.Parts.{IsOfParts}
use Rattle.ctype_format.specs.Shortest.{groups}
use Rattle.ctype_bin.proofs.ReadsExactly.PlainProductions.{exact-several}
use Rattle.ctype_bin.proofs.ReadsExactly.Numbers.{exact-u32, exact-s33}
use Rattle.ctype_format.proofs.ShortestSpellings.{more_groups, least_of, one_power}

-- a fault that values have, where W is known
abbrev pub OfValue : Type 0 → Stuck → Type 0
OfValue W End = ⊥
OfValue W (At fault left) = W → IsOfParts fault
OfValue W (Past more) = ⊥

abbrev pub OfFault : Type 0 → Option Fault → Type 0
OfFault W None = Unit {0}
OfFault W (Some fault) = W → IsOfParts fault

-- a value of P and the rest, or a fault that values have
abbrev pub Again : {X : Type 0} → Type 0 → (X → Type 0) → List ℕ → Result (X × List ℕ) Stuck → Type 0
Again W P rest (Ok x) = P x.0 × (x.1 ≡ rest)
Again W P rest (Err f) = OfValue W f

-- whatever follows
pub record Rereads {X : Type 0} (W : Type 0) (p : Bytes X) (bytes : List ℕ) (P : X → Type 0) : Type 0 where
  pub again : (rest : List ℕ) → Again W P rest (p.read (bytes ++ rest))

pub then_at : {X Y : Type 0} (W : Type 0) (p : Bytes X) (q : X → Bytes Y) (a b rest : List ℕ) (P : X → Type 0) (Q : Y → Type 0) → Again W P (b ++ rest) (p.read (a ++ (b ++ rest))) → ((x : X) → P x → Again W Q rest ((q x).read (b ++ rest))) → Again W Q rest ((p >>= q).read ((a ++ b) ++ rest))
then_at {X = X} {Y = Y} W p q a b rest P Q hp hq = subst (λ (bs : List ℕ). Again W Q rest (after (p.read bs) (λ x. (q x.0).read x.1))) (sym (append_assoc a b rest)) (on (p.read (a ++ (b ++ rest))) hp)
  where
    on : (r : Result (X × List ℕ) Stuck) → Again W P (b ++ rest) r → Again W Q rest (after r (λ x. (q x.0).read x.1))
    on (Ok x) h = subst (λ (bs : List ℕ). Again W Q rest ((q x.0).read bs)) (sym h.1) (hq x.0 h.0)
    on (Err f) h = h

pub reread-then : {X Y W : Type 0} (p : Bytes X) (q : X → Bytes Y) (a b : List ℕ) (P : X → Type 0) (Q : Y → Type 0) → Rereads W p a P → ((x : X) → P x → Rereads W (q x) b Q) → Rereads W (p >>= q) (a ++ b) Q
reread-then {W = W} p q a b P Q hp hq = record { again = λ rest. then_at W p q a b rest P Q (hp.again (b ++ rest)) (λ x h. (hq x h).again rest) }

-- the same, where p reads just one value
pub reread-next : {X Y W : Type 0} (p : Bytes X) (q : X → Bytes Y) (a b : List ℕ) (x : X) (Q : Y → Type 0) → Rereads W p a (λ y. y ≡ x) → Rereads W (q x) b Q → Rereads W (p >>= q) (a ++ b) Q
reread-next {X = X} {W = W} p q a b x Q hp hq = reread-then p q a b (λ y. y ≡ x) Q hp (λ y e. subst (λ (v : X). Rereads W (q v) b Q) (sym e) hq)

pub reread-give : {X W : Type 0} (x : X) (P : X → Type 0) → P x → Rereads W (give x) [] P
reread-give x P h = record { again = λ rest. (h, refl) }

pub reread-gives : {X Y W : Type 0} (p : Bytes X) (f : X → Y) (a : List ℕ) (P : X → Type 0) (Q : Y → Type 0) → Rereads W p a P → ((x : X) → P x → Q (f x)) → Rereads W (p >>= λ x. give (f x)) a Q
reread-gives {X = X} {Y = Y} {W = W} p f a P Q hp same = record { again = λ rest. on rest (p.read (a ++ rest)) (hp.again rest) }
  where
    given : Y × List ℕ → Result (Y × List ℕ) Stuck
    given y = Ok y

    on : (rest : List ℕ) (r : Result (X × List ℕ) Stuck) → Again W P rest r → Again W Q rest (after r (λ x. (give {I = ℕ} {F = Stuck} (f x.0)).read x.1))
    on rest (Ok x) h = (same x.0 h.0, h.1)
    on rest (Err e) h = h

pub reread-only : {X W : Type 0} (p : Bytes X) (fault : X → Option Fault) (a : List ℕ) (P : X → Type 0) → Rereads W p a P → ((x : X) → P x → OfFault W (fault x)) → Rereads W (only_bytes p fault) a (λ x. P x × (fault x ≡ None))
reread-only {X = X} {W = W} p fault a P hp hf = record { again = λ rest. on rest (length (a ++ rest)) (p.read (a ++ rest)) (hp.again rest) }
  where
    by : (rest : List ℕ) (left : ℕ) (x : X × List ℕ) (o : Option Fault) → P x.0 → x.1 ≡ rest → fault x.0 ≡ o → OfFault W o → Again W (λ y. P y × (fault y ≡ None)) rest (passed_unless (stuck_if o left) x)
    by rest left x None h e is k = ((h, is), e)
    by rest left x (Some d) h e is k = k

    on : (rest : List ℕ) (left : ℕ) (r : Result (X × List ℕ) Stuck) → Again W P rest r → Again W (λ y. P y × (fault y ≡ None)) rest (after r (λ x. passed_unless (stuck_if (fault x.0) left) x))
    on rest left (Ok x) h = by rest left x (fault x.0) h.0 h.1 refl (hf x.0 h.0)
    on rest left (Err e) h = h

pub weaker : {X W : Type 0} (p : Bytes X) (a : List ℕ) (P Q : X → Type 0) → Rereads W p a P → ((x : X) → P x → Q x) → Rereads W p a Q
weaker {X = X} {W = W} p a P Q hp pq = record { again = λ rest. on rest (p.read (a ++ rest)) (hp.again rest) }
  where
    on : (rest : List ℕ) (r : Result (X × List ℕ) Stuck) → Again W P rest r → Again W Q rest r
    on rest (Ok x) h = (pq x.0 h.0, h.1)
    on rest (Err e) h = h

-- the same, but for the test, where p reads just one value
pub reread-tested : {X W : Type 0} (p : Bytes X) (fault : X → Option Fault) (a : List ℕ) (x : X) → Rereads W p a (λ y. y ≡ x) → OfFault W (fault x) → Rereads W (only_bytes p fault) a (λ y. y ≡ x)
reread-tested {X = X} {W = W} p fault a x hp hf = weaker (only_bytes p fault) a (λ y. (y ≡ x) × (fault y ≡ None)) (λ y. y ≡ x) (reread-only p fault a (λ y. y ≡ x) hp (λ y e. subst (λ (v : X). OfFault W (fault v)) (sym e) hf)) (λ y h. h.0)

pub reread-byte : {W : Type 0} (b : ℕ) → Rereads W byte (b ∷ []) (λ y. y ≡ b)
reread-byte b = record { again = λ rest. (refl, refl) }

-- what is spelled is read
pub reread-spelt : {X W : Type 0} (p : Bytes X) → ExactBytes p → (bytes : List ℕ) (x : X) → p.spells bytes x → Rereads W p bytes (λ y. y ≡ x)
reread-spelt {X = X} {W = W} p ep bytes x s = record { again = λ rest. subst (λ (r : Result (X × List ℕ) Stuck). Again W (λ y. y ≡ x) rest r) (sym (ep.complete bytes rest x s tt)) (refl, refl) }

pub reread-several : {W : Type 0} (text : List ℕ) → Rereads W (several (length text)) text (λ y. y ≡ text)
reread-several text = reread-spelt (several (length text)) (exact-several (length text)) text text (refl, refl)

-- ---- numbers

too_large : (limit room n : ℕ) (rest : List ℕ) → limit ≤ 128 → 16 * 128 ^ room ≤ n → groups_at limit room (groups limit room n ++ rest) ≡ Err atoms.Overlong
unfolding groups groups_at
too_large limit zero n rest high le = rw (le-ltb n 16 (omega (arith, le))) refl
too_large limit (suc room) n rest high le =
    let power : 128 ^ suc room ≡ 128 ^ room * 128 = pow-suc 128 room in
    let parts : n % 128 + 128 * (n / 128) ≡ n = mod-add-div n 128 in
    let ih = too_large limit room (n / 128) rest high (omega (arith, power, parts, le)) in
    rw (more_groups limit room n (omega (arith, power, le, high, one_power room)), le-ltb (n % 128 + 128) 128 (omega arith), ih) refl

module _ {W : Type 0} (limit : ℕ) (low : 16 ≤ limit) (high : limit ≤ 128) (fault : List ℕ → Fault) (ep : ExactBytes (number (Spells limit) limit fault)) where
  reread-number : (n : ℕ) → (W → FitsU32 n) → Rereads W (number (Spells limit) limit fault) (groups limit 4 n) (λ y. y ≡ n)
  reread-number n fits =
      elim (cases_lt n (2 ^ 32)) [
        | inl lt ↦ reread-spelt (number (Spells limit) limit fault) ep (groups limit 4 n) n (least_of limit n low high lt)
        | inr le ↦ record { again = λ rest. subst (λ (r : Result (ℕ × ℕ) AtomError). Again W (λ y. y ≡ n) rest (number_from fault (groups limit 4 n ++ rest) r)) (sym (too_large limit 4 n rest high (omega (arith, le)))) (λ w. absurd (omega (arith, fits w, le))) }
      ]

pub reread-u32 : {W : Type 0} (n : ℕ) → (W → FitsU32 n) → Rereads W u32 (u32_bytes n) (λ y. y ≡ n)
reread-u32 n fits = reread-number 128 (omega arith) (omega arith) _ exact-u32 n fits

pub reread-s33 : {W : Type 0} (n : ℕ) → (W → FitsU32 n) → Rereads W s33 (s33_bytes n) (λ y. y ≡ n)
reread-s33 n fits = reread-number 64 (omega arith) (omega arith) signed_fault exact-s33 n fits

-- ---- choices

pub reread-first : {X W : Type 0} (test : ℕ → Bool) (p q : Bytes X) (c : ℕ) (cs bytes : List ℕ) (P : X → Type 0) → bytes ≡ c ∷ cs → test c ≡ true → Rereads W p bytes P → Rereads W (choose test p q) bytes P
reread-first {W = W} test p q c cs bytes P e is hp = record { again = λ rest. subst (λ (l : List ℕ). Again W P rest (read_by test p q (l ++ rest))) (sym e) (rw is (subst (λ (l : List ℕ). Again W P rest (p.read (l ++ rest))) e (hp.again rest))) }

pub reread-second : {X W : Type 0} (test : ℕ → Bool) (p q : Bytes X) (c : ℕ) (cs bytes : List ℕ) (P : X → Type 0) → bytes ≡ c ∷ cs → test c ≡ false → Rereads W q bytes P → Rereads W (choose test p q) bytes P
reread-second {W = W} test p q c cs bytes P e is hq = record { again = λ rest. subst (λ (l : List ℕ). Again W P rest (read_by test p q (l ++ rest))) (sym e) (rw is (subst (λ (l : List ℕ). Again W P rest (q.read (l ++ rest))) e (hq.again rest))) }

-- ---- lists

pub reread-times : {X W : Type 0} (p : Bytes X) (w : X → List ℕ) (F : X → Type 0) → ((x : X) → (W → F x) → Rereads W p (w x) (λ y. y ≡ x)) → (xs : List X) → (W → All F xs) → Rereads W (times (length xs) p) (each w xs) (λ ys. ys ≡ xs)
unfolding times
reread-times p w F ep [] formed = reread-give [] (λ ys. ys ≡ []) refl
reread-times {X = X} p w F ep (x ∷ xs) formed = reread-next p (λ y. times (length xs) p >>= λ ys. give (y ∷ ys)) (w x) (each w xs) x (λ ys. ys ≡ x ∷ xs) (ep x (λ h. (formed h).0))
    (reread-gives (times (length xs) p) (λ ys. x ∷ ys) (each w xs) (λ ys. ys ≡ xs) (λ ys. ys ≡ x ∷ xs) (reread-times p w F ep xs (λ h. (formed h).1)) (λ ys e. ap (λ (l : List X). x ∷ l) e))

pub reread-run : {X S W : Type 0} (p : S → Bytes (X × S)) (w : X → List ℕ) (F : X → Type 0) → ((s : S) (x : X) → (W → F x) → Rereads W (p s) (w x) (λ y. y.0 ≡ x)) → (xs : List X) (state : S) → (W → All F xs) → Rereads W (run p (length xs) state) (each w xs) (λ ys. ys.0 ≡ xs)
unfolding run
reread-run p w F ep [] state formed = reread-give ([], state) (λ ys. ys.0 ≡ []) refl
reread-run {X = X} p w F ep (x ∷ xs) state formed = reread-then (p state) (λ first. run p (length xs) first.1 >>= λ others. give (first.0 ∷ others.0, others.1)) (w x) (each w xs) (λ y. y.0 ≡ x) (λ ys. ys.0 ≡ x ∷ xs) (ep state x (λ h. (formed h).0))
    (λ first is. reread-gives (run p (length xs) first.1) (λ others. (first.0 ∷ others.0, others.1)) (each w xs) (λ ys. ys.0 ≡ xs) (λ ys. ys.0 ≡ x ∷ xs) (reread-run p w F ep xs first.1 (λ h. (formed h).1)) (λ others e. rw (is, e) refl))

-- a count and as many
pub reread-counted : {X Y W : Type 0} (c : Bytes ℕ) (p : Bytes X) (w : X → List ℕ) (F : X → Type 0) (f : List X → Y) → ((n : ℕ) → (W → FitsU32 n) → Rereads W c (u32_bytes n) (λ y. y ≡ n)) → ((x : X) → (W → F x) → Rereads W p (w x) (λ y. y ≡ x)) → (xs : List X) → (W → Counted F xs)
    → Rereads W (c >>= λ n. times n p >>= λ ys. give (f ys)) (counted w xs) (λ y. y ≡ f xs)
reread-counted c p w F f ec ep xs formed = reread-next c _ (u32_bytes (length xs)) (each w xs) (length xs) (λ y. y ≡ f xs) (ec (length xs) (λ h. (formed h).0))
    (reread-gives (times (length xs) p) f (each w xs) (λ ys. ys ≡ xs) (λ y. y ≡ f xs) (reread-times p w F ep xs (λ h. (formed h).1)) (λ ys e. ap f e))
