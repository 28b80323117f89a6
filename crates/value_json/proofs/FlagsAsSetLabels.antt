-- Flags as the labels that are set.
use Rattle.std.proofs.Common.{◌≡◌, inl, inr, ℕ, suc, ◌*◌, ◌-◌, ◌≤◌, List, [], ◌∷◌, length, take, drop, get_or, refl, sym, ap, ◌∙◌, subst, arith}
use Rattle.canonical_abi.specs.Labelled.{Label}
use Rattle.serde_json.specs.Data.{Data, string}
use Rattle.value_json.specs.Json.{FlagsJson}

cons-same : {A : Type 0} (a b : A) (as1 bs : List A) → a ∷ as1 ≡ b ∷ bs → (a ≡ b) × (as1 ≡ bs)
cons-same a b as1 bs e = (cc, cc)

-- without the first label that stands, the rest still stand
pub drop-first : (ls : List Label) (n : ℕ) (x : Data) (js : List Data) → FlagsJson ls n (x ∷ js) → (m : ℕ) × FlagsJson ls m js
drop-first [] n x js (none, no_js) = absurd (cc)
drop-first (l ∷ ls) n x js (rest, inl (is, stand)) = let (m, less) = drop-first ls rest x js stand in (2 * m, (m, inl (refl, less)))
drop-first (l ∷ ls) n x js (rest, inr (others, is, is_js, stand)) =
    let same = cons-same x (string l) js others is_js in
    (2 * rest, (rest, inl (refl, subst (FlagsJson ls rest) (sym same.1) stand)))

-- where the first label is here, it's taken
pub none-taken : (l : Label) (ls : List Label) (x : Data) (js : List Data) → ((n : ℕ) → FlagsJson ls n js → ⊥) → (n : ℕ) → FlagsJson (l ∷ ls) n (x ∷ js) → ⊥
none-taken l ls x js none n (rest, inl (is, stand)) = let (m, less) = drop-first ls rest x js stand in none m less
none-taken l ls x js none n (rest, inr (others, is, is_js, stand)) =
    let same = cons-same x (string l) js others is_js in none rest (subst (FlagsJson ls rest) (sym same.1) stand)

-- where another is here, it isn't
pub none-left : (l : Label) (ls : List Label) (js : List Data) → ((others : List Data) → js ≡ string l ∷ others → ⊥)
    → ((n : ℕ) → FlagsJson ls n js → ⊥) → (n : ℕ) → FlagsJson (l ∷ ls) n js → ⊥
none-left l ls js other none n (rest, inl (is, stand)) = none rest stand
none-left l ls js other none n (rest, inr (others, is, is_js, stand)) = other others is_js

take-whole : {A : Type 0} (xs : List A) → take (length xs) xs ≡ xs
take-whole [] = refl
take-whole (x ∷ xs) = ap (λ ys. x ∷ ys) (take-whole xs)

-- a list is its first element and those behind
pub split-list : {A : Type 0} (xs : List A) (x : A) → 1 ≤ length xs → x ≡ get_or xs 0 x → xs ≡ x ∷ take (length xs - 1) (drop 1 xs)
split-list [] x h is = absurd (omega arith)
split-list (y ∷ ys) x h is =
    let n : suc (length ys) - 1 ≡ length ys = omega arith in
    rw n (ap (λ z. z ∷ ys) (sym is) ∙ ap (λ zs. x ∷ zs) (sym (take-whole ys)))
