-- The shortest spelling of a number, as a function.
use Rattle.std.proofs.Common.{◌≡◌, ℕ, zero, suc, ◌+◌, ◌*◌, ◌/◌, ◌%◌, ◌^◌, ◌<◌, ◌≤◌, List, [], ◌∷◌, ◌++◌, length, refl, ap, subst, ◌∙◌, arith, inl, inr}
use Rattle.std.proofs.Math.Nat.{pow-suc, mod-add-div}
use Rattle.std.proofs.lemmas.Bool.{cases_lt, le-ltb, lt-ltb}
use Rattle.atoms.specs.Leb128.{Spells, AppendsLeast}
use Rattle.atoms.proofs.GroupsOfSevenBits.{Groups, spells-groups, spells-of_groups}
use Rattle.ctype_format.specs.Shortest.{groups}

pub one_group : (limit room n : ℕ) → n < limit → groups limit (suc room) n ≡ n ∷ []
unfolding groups
one_group limit room n lt = rw (lt-ltb n limit lt) refl

pub more_groups : (limit room n : ℕ) → limit ≤ n → groups limit (suc room) n ≡ (n % 128 + 128) ∷ groups limit room (n / 128)
unfolding groups
more_groups limit room n le = rw (le-ltb n limit le) refl

mod_small : (n : ℕ) → n % 128 < 128
mod_small n = omega arith

behind_one : (limit room b : ℕ) (bs : List ℕ) (n high : ℕ) → 128 ≤ b → b < 256 → n + 128 ≡ b + 128 * high → Groups limit room bs high → Groups limit (suc room) (b ∷ bs) n
behind_one limit room b [] n high low top is g = absurd (none room g)
  where
    none : (room : ℕ) → Groups limit room [] high → ⊥
    none zero g = g
    none (suc room) g = g
behind_one limit room b (c ∷ bs) n high low top is g = (low, top, high, is, g)

pub zero_are : (limit n : ℕ) → 16 ≤ limit → n < 16 → Groups limit zero (groups limit zero n) n
unfolding groups
zero_are limit n low lt = (omega (arith, low, lt), lt, refl)

groups_are : (limit room n : ℕ) → 16 ≤ limit → n < 16 * 128 ^ room → Groups limit room (groups limit room n) n
groups_are limit zero n low lt = zero_are limit n low (omega (arith, lt))
groups_are limit (suc room) n low lt =
    elim (cases_lt n limit) [
      | inl small ↦ rw (one_group limit room n small) (small, refl)
      | inr large ↦
          let parts : n % 128 + 128 * (n / 128) ≡ n = mod-add-div n 128 in
          let power : 128 ^ suc room ≡ 128 ^ room * 128 = pow-suc 128 room in
          let below : n / 128 < 16 * 128 ^ room = omega (arith, parts, power, lt, mod_small n) in
          rw (more_groups limit room n large) (behind_one limit room (n % 128 + 128) (groups limit room (n / 128)) n (n / 128) (omega arith) (omega (arith, mod_small n)) (omega (arith, parts)) (groups_are limit room (n / 128) low below))
    ]

zero_is : (limit n : ℕ) → length (groups limit zero n) ≡ 1
unfolding groups
zero_is limit n = refl

-- no spelling is shorter
shortest : (limit room : ℕ) (other : List ℕ) (n : ℕ) → 16 ≤ limit → Groups limit room other n → length (groups limit room n) ≤ length other
shortest limit room [] n low g = absurd (none room g)
  where
    none : (room : ℕ) → Groups limit room [] n → ⊥
    none zero g = g
    none (suc room) g = g
shortest limit zero (o ∷ os) n low g = let one : length (groups limit zero n) ≡ 1 = zero_is limit n in omega (arith, one)
shortest limit (suc room) (o ∷ []) n low g = rw (one_group limit room n (omega (arith, g.0, g.1))) (omega arith)
shortest limit (suc room) (o ∷ p ∷ os) n low g =
    let ih = shortest limit room (p ∷ os) g.2 low g.4 in
    elim (cases_lt n limit) [
      | inl small ↦ rw (one_group limit room n small) (omega arith)
      | inr large ↦
          let parts : n % 128 + 128 * (n / 128) ≡ n = mod-add-div n 128 in
          let same : n / 128 ≡ g.2 = omega (arith, parts, mod_small n, g.0, g.1, g.3) in
          let again : length (groups limit room (n / 128)) ≤ length (p ∷ os) = rw same ih in
          rw (more_groups limit room n large) (omega (arith, again))
    ]

-- of one length there is one spelling
unique : (limit room : ℕ) (xs ys : List ℕ) (n : ℕ) → Groups limit room xs n → Groups limit room ys n → length xs ≡ length ys → xs ≡ ys
unique limit room [] [] n g h e = refl
unique limit room [] (y ∷ ys) n g h e = absurd (omega (arith, e))
unique limit room (x ∷ xs) [] n g h e = absurd (omega (arith, e))
unique limit zero (x ∷ []) (y ∷ []) n g h e = let same : x ≡ y = omega (arith, g.2, h.2) in ap (λ (b : ℕ). b ∷ []) same
unique limit (suc room) (x ∷ []) (y ∷ []) n g h e = let same : x ≡ y = omega (arith, g.1, h.1) in ap (λ (b : ℕ). b ∷ []) same
unique limit room (x ∷ []) (y ∷ z ∷ ys) n g h e = absurd (omega (arith, e))
unique limit room (x ∷ z ∷ xs) (y ∷ []) n g h e = absurd (omega (arith, e))
unique limit zero (x ∷ z ∷ xs) (y ∷ w ∷ ys) n g h e = absurd g
unique limit (suc room) (x ∷ z ∷ xs) (y ∷ w ∷ ys) n g h e =
    let high : g.2 ≡ h.2 = omega (arith, g.0, g.1, g.3, h.0, h.1, h.3) in
    let byte : x ≡ y = omega (arith, high, g.3, h.3) in
    let rest : z ∷ xs ≡ w ∷ ys = unique limit room (z ∷ xs) (w ∷ ys) h.2 (subst (λ (m : ℕ). Groups limit room (z ∷ xs) m) high g.4) h.4 (omega (arith, e)) in
    ap (λ (b : ℕ). b ∷ z ∷ xs) byte ∙ ap (λ (l : List ℕ). y ∷ l) rest

-- what is appended as the shortest spelling is that
pub appended : (limit : ℕ) (old new : List ℕ) (n : ℕ) → 16 ≤ limit → limit ≤ 128 → n < 2 ^ 32 → AppendsLeast (Spells limit) old new n → new ≡ old ++ groups limit 4 n
appended limit old new n low high lt h =
    let least = groups_are limit 4 n low (omega (arith, lt)) in
    let spelt = spells-groups limit 4 h.0 n high h.2.ends h.2.short h.2.fifth h.2.value in
    let above : length h.0 ≤ length (groups limit 4 n) = h.3 (groups limit 4 n) (spells-of_groups limit (groups limit 4 n) n high least) in
    let below : length (groups limit 4 n) ≤ length h.0 = shortest limit 4 h.0 n low spelt in
    h.1 ∙ ap (λ (l : List ℕ). old ++ l) (unique limit 4 h.0 (groups limit 4 n) n spelt least (omega (arith, above, below)))

-- ---- what is spelled is spelled so, and in no more bytes

pub one_power : (room : ℕ) → 1 ≤ 128 ^ room
one_power zero = omega arith
one_power (suc room) = let p : 128 ^ suc room ≡ 128 ^ room * 128 = pow-suc 128 room in let ih = one_power room in omega (arith, p, ih)

bounded : (limit room : ℕ) (bytes : List ℕ) (n : ℕ) → limit ≤ 128 → Groups limit room bytes n → n < 16 * 128 ^ room
bounded limit room [] n high g = absurd (none room g)
  where
    none : (room : ℕ) → Groups limit room [] n → ⊥
    none zero g = g
    none (suc room) g = g
bounded limit zero (b ∷ []) n high g = omega (arith, g.1, g.2)
bounded limit (suc room) (b ∷ []) n high g = let p : 128 ^ suc room ≡ 128 ^ room * 128 = pow-suc 128 room in let one = one_power room in omega (arith, p, one, g.0, g.1, high)
bounded limit zero (b ∷ c ∷ bs) n high g = absurd g
bounded limit (suc room) (b ∷ c ∷ bs) n high g = let p : 128 ^ suc room ≡ 128 ^ room * 128 = pow-suc 128 room in let ih = bounded limit room (c ∷ bs) g.2 high g.4 in omega (arith, p, ih, g.0, g.1, g.3)

pub least_spells : (limit : ℕ) (bytes : List ℕ) (n : ℕ) → 16 ≤ limit → limit ≤ 128 → Spells limit bytes n → Spells limit (groups limit 4 n) n × (length (groups limit 4 n) ≤ length bytes)
least_spells limit bytes n low high s =
    let g = spells-groups limit 4 bytes n high s.ends s.short s.fifth s.value in
    (spells-of_groups limit (groups limit 4 n) n high (groups_are limit 4 n low (bounded limit 4 bytes n high g)), shortest limit 4 bytes n low g)

pub small : (bytes : List ℕ) (n : ℕ) → Spells 128 bytes n → n < 2 ^ 32
small bytes n s = let h = bounded 128 4 bytes n (omega arith) (spells-groups 128 4 bytes n (omega arith) s.ends s.short s.fifth s.value) in omega (arith, h)

pub least_of : (limit n : ℕ) → 16 ≤ limit → limit ≤ 128 → n < 2 ^ 32 → Spells limit (groups limit 4 n) n
least_of limit n low high lt = spells-of_groups limit (groups limit 4 n) n high (groups_are limit 4 n low (omega (arith, lt)))
