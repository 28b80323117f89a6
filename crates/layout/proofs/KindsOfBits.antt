-- Lists of flat kinds that a number's bits tell.
use Rattle.std.proofs.Common.{◌≡◌, ℕ, zero, suc, append_assoc, ◌+◌, ◌-◌, ◌*◌, ◌/◌, ◌%◌, ◌^◌, ◌<◌, ◌≤◌, inl, inr, max, leb, map, take, drop, get_or, List, [], ◌∷◌, ◌++◌, length, refl, ap, sym, ◌∙◌, arith}
use Rattle.std.specs.Prelude.{bit_or}
use Rattle.std.proofs.lemmas.Nat.{or_mod, or_shr, or_lt, or_shifted, shl_whole, mul-add-lt, pow-add}
use Rattle.std.proofs.Math.Pow.{pow_mono}
use Rattle.std.proofs.Math.Nat.{pow-suc}
use Rattle.std.specs.Int.Bits.{or_zero_r}
use Rattle.std.proofs.lemmas.Bool.Decides.{nat_tests}
use Rattle.std.proofs.lemmas.List.{length-append, length-map}
use Rattle.canonical_abi.specs.Layout.{join, join_kind}
use Rattle.canonical_abi.specs.declared.flat.CoreKind.{CoreKind}
use Rattle.canonical_abi.specs.declared.flat.CoreKind.TheVariants.{I32}
use Rattle.canonical_abi.specs.declared.flat.Flat.{Flat as Value}
use Rattle.canonical_abi.specs.Reading.{kind_of}
use Rattle.layout.specs.Kinds.{passed, append_kinds, join_kinds}
use Rattle.layout.specs.Signature.{is_one, single_result}
use Rattle.layout.specs.Packed.{lowest_kind, kinds_by_bits, kinds_packed}
use Rattle.layout.specs.declared.kinds.Kinds.{Kinds}
use Rattle.layout.specs.declared.kinds.Kinds.TheVariants.{Flat, Spilled}
use Rattle.layout.proofs.FlatKindsCutAtSixteen.{kinds_of-flat, kinds_of-spilled, few-or-many}
use Rattle.layout.proofs.ElementsPutBehind.{map-more}
use Rattle.layout.proofs.JoinsOfFlatKinds.{length-join}

pub length-kinds_by_bits : (n wide : ℕ) → length (kinds_by_bits n wide) ≡ n
length-kinds_by_bits zero wide = refl
length-kinds_by_bits (suc n) wide = ap suc (length-kinds_by_bits n (wide / 2))

-- only the lowest bit counts
lowest-same : (a b : ℕ) → a % 2 ≡ b % 2 → lowest_kind a ≡ lowest_kind b
lowest-same a b e = rw e refl

more-bits : (n x y : ℕ) (k : CoreKind) → lowest_kind x ≡ k → x / 2 ≡ y → kinds_by_bits (suc n) x ≡ k ∷ kinds_by_bits n y
more-bits n x y k e f = rw (e, f) refl

-- the kinds of one number behind those of another
pub kinds_by_bits-behind : (m n a b : ℕ) → a < 2 ^ m → kinds_by_bits (m + n) (b * 2 ^ m + a) ≡ kinds_by_bits m a ++ kinds_by_bits n b
kinds_by_bits-behind zero n a b h =
    let whole : b * 2 ^ zero + a ≡ b = omega arith in
    let count : zero + n ≡ n = omega arith in
    rw (count, whole) refl
kinds_by_bits-behind (suc m) n a b h =
    let whole : b * 2 ^ suc m + a ≡ 2 * (b * 2 ^ m) + a = rw (pow-suc 2 m) (omega arith) in
    let rest = kinds_by_bits-behind m n (a / 2) b (omega arith) in
    let count : suc m + n ≡ suc (m + n) = omega arith in
    rw (count, whole) (more-bits (m + n) (2 * (b * 2 ^ m) + a) (b * 2 ^ m + a / 2) (lowest_kind a) (lowest-same _ _ (omega arith)) (omega arith) ∙ ap (λ (ks : List CoreKind). lowest_kind a ∷ ks) rest)

or-lowest : (a b : ℕ) → lowest_kind (bit_or a b) ≡ join_kind (lowest_kind a) (lowest_kind b)
or-lowest a b = by (a % 2) (b % 2) (omega arith) (omega arith) refl refl
  where
    by : (c d : ℕ) → c < 2 → d < 2 → a % 2 ≡ c → b % 2 ≡ d → lowest_kind (bit_or a b) ≡ join_kind (lowest_kind a) (lowest_kind b)
    by zero zero p q e f = let both : bit_or a b % 2 ≡ 0 = or_mod a b 1 ∙ rw (e, f) refl in rw (both, e, f) refl
    by zero (suc zero) p q e f = let both : bit_or a b % 2 ≡ 1 = or_mod a b 1 ∙ rw (e, f) refl in rw (both, e, f) refl
    by (suc zero) zero p q e f = let both : bit_or a b % 2 ≡ 1 = or_mod a b 1 ∙ rw (e, f) refl in rw (both, e) refl
    by (suc zero) (suc zero) p q e f = let both : bit_or a b % 2 ≡ 1 = or_mod a b 1 ∙ rw (e, f) refl in rw (both, e) refl
    by (suc (suc c)) d p q e f = absurd (omega arith)
    by c (suc (suc d)) p q e f = absurd (omega arith)

-- the kinds of two numbers joined
pub kinds_by_bits-joined : (m n a b : ℕ) → a < 2 ^ m → b < 2 ^ n → kinds_by_bits (max m n) (bit_or a b) ≡ join (kinds_by_bits m a) (kinds_by_bits n b)
kinds_by_bits-joined zero n a b h g =
    let none : a ≡ 0 = omega arith in
    let count : max zero n ≡ n = omega arith in
    rw (count, none) refl
kinds_by_bits-joined (suc m) zero a b h g =
    let none : b ≡ 0 = omega arith in
    let count : max (suc m) zero ≡ suc m = omega arith in
    rw (count, none, or_zero_r a) refl
kinds_by_bits-joined (suc m) (suc n) a b h g =
    let count : max (suc m) (suc n) ≡ suc (max m n) = omega arith in
    let rest = kinds_by_bits-joined m n (a / 2) (b / 2) (omega arith) (omega arith) in
    rw count (more-bits (max m n) (bit_or a b) (bit_or (a / 2) (b / 2)) (join_kind (lowest_kind a) (lowest_kind b)) (or-lowest a b) (or_shr a b 1)
    ∙ ap (λ (ks : List CoreKind). join_kind (lowest_kind a) (lowest_kind b) ∷ ks) rest)

-- one more kind from the bits to the list
pub next-kind : (ks all : List CoreKind) (i n wide : ℕ) → i < n → ks ++ kinds_by_bits (n - i) wide ≡ all
    → (ks ++ lowest_kind wide ∷ []) ++ kinds_by_bits (n - (i + 1)) (wide / 2) ≡ all
next-kind ks all i n wide h e =
    let count : n - i ≡ suc (n - (i + 1)) = omega arith in
    let here : kinds_by_bits (n - i) wide ≡ lowest_kind wide ∷ kinds_by_bits (n - (i + 1)) (wide / 2) = rw count refl in
    rw (append_assoc, ← here) e

pub kinds-so-far : (ks : List CoreKind) (i n wide whole : ℕ) → ks ++ kinds_by_bits (n - i) wide ≡ kinds_by_bits n whole → length ks + (n - i) ≡ n
kinds-so-far ks i n wide whole e =
    omega (arith, ap length e, length-append ks (kinds_by_bits (n - i) wide), length-kinds_by_bits (n - i) wide, length-kinds_by_bits n whole)

-- ---- kinds that are packed

few : (n wide : ℕ) → n ≤ 16 → kinds_packed n wide ≡ Flat (record { items = kinds_by_bits n wide })
few n wide h = grind (arith, nat_tests)

pub many : (n wide : ℕ) → 16 < n → kinds_packed n wide ≡ Spilled
many n wide h = grind (arith, nat_tests)

pub packed-behind : (m n a b k w : ℕ) → a < 2 ^ m → k ≡ m + n → k ≤ 16 → w ≡ b * 2 ^ m + a → kinds_packed k w ≡ append_kinds (kinds_packed m a) (kinds_packed n b)
packed-behind m n a b k w h count fits wide =
    let left = few m a (omega arith) in
    let right = few n b (omega arith) in
    let both = kinds_by_bits-behind m n a b h in
    let room : length (kinds_by_bits m a ++ kinds_by_bits n b) ≤ 16 = omega (arith, length-append (kinds_by_bits m a) (kinds_by_bits n b), length-kinds_by_bits m a, length-kinds_by_bits n b) in
    rw (left, right, wide, few k (b * 2 ^ m + a) fits, count, both, kinds_of-flat (kinds_by_bits m a ++ kinds_by_bits n b) room) refl

pub packed-too-many : (m n a b : ℕ) → 16 < m + n → Spilled ≡ append_kinds (kinds_packed m a) (kinds_packed n b)
packed-too-many m n a b h = elim (few-or-many m) [
  | inl f ↦ elim (few-or-many n) [
    | inl g ↦
        let room : 16 < length (kinds_by_bits m a ++ kinds_by_bits n b) = omega (arith, length-append (kinds_by_bits m a) (kinds_by_bits n b), length-kinds_by_bits m a, length-kinds_by_bits n b) in
        rw (few m a f, few n b g, kinds_of-spilled (kinds_by_bits m a ++ kinds_by_bits n b) room) refl
    | inr g ↦ rw (few m a f, many n b g) refl
  ]
  | inr f ↦ rw (many m a f) refl
]

pub packed-joined : (m n a b k : ℕ) → a < 2 ^ m → b < 2 ^ n → k ≡ max m n → kinds_packed k (bit_or a b) ≡ join_kinds (kinds_packed m a) (kinds_packed n b)
packed-joined m n a b k h g count = elim (few-or-many m) [
  | inl f ↦ elim (few-or-many n) [
    | inl f' ↦
        let room : length (join (kinds_by_bits m a) (kinds_by_bits n b)) ≤ 16 = omega (arith, length-join (kinds_by_bits m a) (kinds_by_bits n b), length-kinds_by_bits m a, length-kinds_by_bits n b) in
        rw (few m a f, few n b f', few k (bit_or a b) (omega arith), count, kinds_by_bits-joined m n a b h g, kinds_of-flat (join (kinds_by_bits m a) (kinds_by_bits n b)) room) refl
    | inr f' ↦ rw (few m a f, many n b f', many k (bit_or a b) (omega arith)) refl
  ]
  | inr f ↦ rw (many m a f, many k (bit_or a b) (omega arith)) refl
]

pub one-packed : (n a : ℕ) → leb n 1 ≡ is_one (kinds_packed n a)
one-packed n a = elim (few-or-many n) [
  | inl h ↦ rw (few n a h, length-kinds_by_bits n a) refl
  | inr h ↦ rw (many n a h) (grind (arith, nat_tests))
]

pub address-packed : (n a : ℕ) → 1 < n → I32 ∷ [] ≡ single_result (kinds_packed n a)
address-packed n a h = elim (few-or-many n) [
  | inl f ↦ rw (few n a f) (let count = length-kinds_by_bits n a in grind (arith, nat_tests))
  | inr f ↦ rw (many n a f) refl
]

-- ---- values whose kinds the bits tell

at-place : (flats : List Value) (i : ℕ) (d : Value) → i < length flats
    → map kind_of flats ≡ map kind_of (take i flats) ++ kind_of (get_or flats i d) ∷ map kind_of (drop (suc i) flats)
at-place [] i d h = absurd (omega arith)
at-place (f ∷ fs) zero d h = refl
at-place (f ∷ fs) (suc i) d h = ap (λ (ks : List CoreKind). kind_of f ∷ ks) (at-place fs i d (omega arith))

same-behind : (before ks ls : List CoreKind) (k l : CoreKind) → before ++ k ∷ ks ≡ before ++ l ∷ ls → k ≡ l
same-behind [] ks ls k l e = cc
same-behind (b ∷ bs) ks ls k l e = same-behind bs ks ls k l (cc)

pub other-kind : (flats : List Value) (i n wide whole : ℕ) (ls : Kinds) (d : Value) (k l : CoreKind) → i < length flats → length flats ≡ n → n ≤ 16
    → map kind_of (take i flats) ++ kinds_by_bits (length flats - i) wide ≡ kinds_by_bits (length flats) whole
    → kinds_packed n whole ≡ ls → k ≡ kind_of (get_or flats i d) → l ≡ lowest_kind wide → map kind_of flats ≡ passed ls → k ≡ l
other-kind flats i n wide whole ls d k l h count fits told is k_is l_is all =
    let here : length flats - i ≡ suc (length flats - (i + 1)) = omega arith in
    let whole_is : kinds_by_bits (length flats) whole ≡ map kind_of flats = rw count (sym (all ∙ sym (ap passed is) ∙ ap passed (few n whole fits))) in
    rw (k_is, l_is) (same-behind (map kind_of (take i flats)) (map kind_of (drop (suc i) flats)) (kinds_by_bits (length flats - (i + 1)) (wide / 2)) (kind_of (get_or flats i d)) (lowest_kind wide)
    (sym (at-place flats i d h) ∙ sym whole_is ∙ sym told ∙ ap (λ (m : ℕ). map kind_of (take i flats) ++ kinds_by_bits m wide) here))

pub next-told : (flats : List Value) (i n wide : ℕ) (all : List CoreKind) (d : Value) (k l : CoreKind) → i < n → i < length flats
    → map kind_of (take i flats) ++ kinds_by_bits (n - i) wide ≡ all → k ≡ kind_of (get_or flats i d) → l ≡ lowest_kind wide → k ≡ l
    → map kind_of (take (i + 1) flats) ++ kinds_by_bits (n - (i + 1)) (wide / 2) ≡ all
next-told flats i n wide all d k l h within told k_is l_is same =
    let is : kind_of (get_or flats i d) ≡ lowest_kind wide = sym k_is ∙ same ∙ l_is in
    rw (map-more kind_of flats i d within, is) (next-kind (map kind_of (take i flats)) all i n wide h told)

pub other-count : (flats : List Value) (n a : ℕ) (ks : Kinds) → n ≤ 16 → kinds_packed n a ≡ ks → map kind_of flats ≡ passed ks → length flats ≡ n
other-count flats n a ks h is all = sym (length-map flats kind_of) ∙ ap length (all ∙ sym (ap passed is) ∙ ap passed (few n a h)) ∙ length-kinds_by_bits n a

-- ---- numbers that stay below a power of two

pub below-more : (a m n : ℕ) → a < 2 ^ m → m ≤ n → a < 2 ^ n
below-more a m n h g = omega (arith, pow_mono {i = m} {j = n} g)

pub below-behind : (m n a b : ℕ) → a < 2 ^ m → b < 2 ^ n → b * 2 ^ m + a < 2 ^ (m + n)
below-behind m n a b h g = rw (pow-add 2 m n) (mul-add-lt b (2 ^ m) a (2 ^ n) g h)

pub below-joined : (m n a b : ℕ) → a < 2 ^ m → b < 2 ^ n → bit_or a b < 2 ^ max m n
below-joined m n a b h g = or_lt (max m n) a b (below-more a m (max m n) h (omega arith)) (below-more b n (max m n) g (omega arith))

-- a number behind another, as 32 bits hold both
pub put-behind : (m n a b x y : ℕ) → a < 2 ^ m → b < 2 ^ n → m + n ≤ 16 → x ≡ b → y ≡ a → bit_or (x * 2 ^ m % 4294967296) y ≡ b * 2 ^ m + a
put-behind m n a b x y h g fits x_is y_is =
    let whole : (b * 2 ^ m) % 2 ^ 32 ≡ b * 2 ^ m = shl_whole b n m 32 g (omega arith) in
    rw (x_is, y_is, whole) (or_shifted b m a h)
