-- Lines that are written over the front of an array: in one write, and in several.
use Rattle.std.proofs.Common.{◌≡◌, ℕ, zero, suc, ◌+◌, ◌-◌, ◌≤◌, ◌<◌, List, [], ◌∷◌, ◌++◌, length, take, drop, arith, refl, sym, ap, ◌∙◌, ◌^◌, length-append}
use Rattle.std.specs.Prelude.{min}
use Rattle.std.proofs.lemmas.List.{take_min, drop_min, drop-drop}
use Rattle.std.specs.List.{concat, FoldsTo}
use Rattle.std.specs.Prelude.{Option, Some, None, IfSome, Result, Ok, Err, is_err, OnOk, true, false}
use Rattle.std.specs.Fmt.{WritesText, WritesInCalls}
use Rattle.host_calls.specs.declared.error.CallError.TheVariants.{NoRoom}
use Rattle.c_border.specs.Line.{counted, LineDone}
use Rattle.c_border.specs.Writing.{put_over}

-- from the front on: as many as there is room for, and the rest
pub from-front : (a bytes : List ℕ) → put_over a 0 bytes ≡ take (length a) bytes ++ drop (length bytes) a
from-front [] [] = refl
from-front [] (b ∷ bytes) = refl
from-front (x ∷ xs) [] = refl
from-front (x ∷ xs) (b ∷ bytes) = ap (λ l. b ∷ l) (from-front xs bytes)

-- from a place on that the array has
pub from-place : (a : List ℕ) (n : ℕ) (bytes : List ℕ) → n ≤ length a → put_over a n bytes ≡ take n a ++ (take (length a - n) bytes ++ drop (n + length bytes) a)
from-place a zero bytes within =
    let rest : length bytes ≡ 0 + length bytes = omega (arith) in
    let room : length a ≡ length a - 0 = omega (arith) in
    from-front a bytes ∙ ap (λ k. take (length a) bytes ++ drop k a) rest ∙ ap (λ k. take k bytes ++ drop (0 + length bytes) a) room
from-place (x ∷ xs) (suc n) bytes within =
    let rest : suc (n + length bytes) ≡ suc n + length bytes = omega (arith) in
    let room : length xs - n ≡ suc (length xs) - suc n = omega (arith) in
    ap (λ l. x ∷ l) (from-place xs n bytes (omega (arith, within)))
    ∙ ap (λ k. x ∷ take n xs ++ (take k bytes ++ drop (n + length bytes) xs)) room
    ∙ ap (λ k. x ∷ take n xs ++ (take (suc (length xs) - suc n) bytes ++ drop k (x ∷ xs))) rest
from-place [] (suc n) bytes within = absurd (omega (arith, within))

-- no bytes
pub nothing-put : (a : List ℕ) (n : ℕ) → put_over a n [] ≡ a
nothing-put [] n = refl
nothing-put (x ∷ xs) zero = refl
nothing-put (x ∷ xs) (suc n) = ap (λ l. x ∷ l) (nothing-put xs n)

-- two writes, one behind the other, are one
pub joined : (a : List ℕ) (n : ℕ) (bytes others : List ℕ) → put_over (put_over a n bytes) (n + length bytes) others ≡ put_over a n (bytes ++ others)
joined [] n bytes others = refl
joined (x ∷ xs) (suc n) bytes others =
    let place : suc n + length bytes ≡ suc (n + length bytes) = omega (arith) in
    ap (λ k. put_over (x ∷ put_over xs n bytes) k others) place ∙ ap (λ l. x ∷ l) (joined xs n bytes others)
joined (x ∷ xs) zero [] others = refl
joined (x ∷ xs) zero (b ∷ bytes) others =
    let place : 0 + length (b ∷ bytes) ≡ suc (0 + length bytes) = omega (arith) in
    ap (λ k. put_over (b ∷ put_over xs 0 bytes) k others) place ∙ ap (λ l. b ∷ l) (joined xs zero bytes others)

-- as long as it was
pub same-length : (a : List ℕ) (n : ℕ) (bytes : List ℕ) → length (put_over a n bytes) ≡ length a
same-length [] n bytes = refl
same-length (x ∷ xs) (suc n) bytes = ap suc (same-length xs n bytes)
same-length (x ∷ xs) zero [] = refl
same-length (x ∷ xs) zero (b ∷ bytes) = ap suc (same-length xs zero bytes)

-- a place past the end is as good as the end
pub up-to-end : (a : List ℕ) (n : ℕ) (bytes : List ℕ) → put_over a (min n (length a)) bytes ≡ put_over a n bytes
up-to-end [] n bytes = refl
up-to-end (x ∷ xs) zero bytes =
    let none : min 0 (suc (length xs)) ≡ 0 = omega (arith) in ap (λ k. put_over (x ∷ xs) k bytes) none
up-to-end (x ∷ xs) (suc n) bytes =
    let least : min (suc n) (suc (length xs)) ≡ suc (min n (length xs)) = omega (arith) in
    ap (λ k. put_over (x ∷ xs) k bytes) least ∙ ap (λ l. x ∷ l) (up-to-end xs n bytes)

-- as many bytes as there is room for, copied between what is before them and what is behind
pub copied : (a : List ℕ) (n start fitting : ℕ) (bytes new : List ℕ) → start ≡ min n (length a) → fitting ≡ min (length bytes) (length a - start)
    → new ≡ take fitting bytes → take start a ++ (new ++ drop (start + fitting) a) ≡ put_over a n bytes
copied a n start fitting bytes new begins fits taken =
    let turned : fitting ≡ min (length a - start) (length bytes) = omega (arith, fits) in
    let first : new ≡ take (length a - start) bytes = taken ∙ ap (λ k. take k bytes) turned ∙ take_min (length a - start) bytes in
    let ends : start + fitting ≡ min (start + length bytes) (length a) = omega (arith, fits, begins) in
    let rest : drop (start + fitting) a ≡ drop (start + length bytes) a = ap (λ k. drop k a) ends ∙ drop_min (start + length bytes) a in
    let within : start ≤ length a = omega (arith, begins) in
    ap (λ l. take start a ++ (l ++ drop (start + fitting) a)) first
    ∙ ap (λ l. take start a ++ (take (length a - start) bytes ++ l)) rest
    ∙ sym (from-place a start bytes within)
    ∙ ap (λ k. put_over a k bytes) begins
    ∙ up-to-end a n bytes

-- the same, with what is behind them as the code has it
pub copied-behind : (a : List ℕ) (n start fitting : ℕ) (bytes new : List ℕ) → start ≡ min n (length a) → fitting ≡ min (length bytes) (length a - start)
    → new ≡ take fitting bytes → take start a ++ (new ++ drop (start + fitting - start) (drop start a)) ≡ put_over a n bytes
copied-behind a n start fitting bytes new begins fits taken =
    let many : start + fitting - start ≡ fitting = omega (arith) in
    let behind : drop (start + fitting - start) (drop start a) ≡ drop (start + fitting) a = ap (λ k. drop k (drop start a)) many ∙ drop-drop fitting start a in
    ap (λ l. take start a ++ (new ++ l)) behind ∙ copied a n start fitting bytes new begins fits taken

-- a place counted by 64 bits is as good, in an array that they count
pub as-counted : (a : List ℕ) (n : ℕ) (bytes : List ℕ) → length a < 2 ^ 64 → put_over a (counted n) bytes ≡ put_over a n bytes
as-counted a n bytes small =
    let least : min (counted n) (length a) ≡ min n (length a) = omega (arith, small) in
    sym (up-to-end a (counted n) bytes) ∙ ap (λ k. put_over a k bytes) least ∙ up-to-end a n bytes

module _ {W N : Type 0} (array : W → List ℕ) (count : W → ℕ) (name : W → N) (R : W → List ℕ → W → Type 0)
    (puts : (s : W) (bytes : List ℕ) (t : W) → R s bytes t → array t ≡ put_over (array s) (count s) bytes)
    (counts : (s : W) (bytes : List ℕ) (t : W) → R s bytes t → count t ≡ counted (count s + length bytes))
    (names : (s : W) (bytes : List ℕ) (t : W) → R s bytes t → name t ≡ name s) where
  -- some writes, one after another, are one
  pub all-put : (s : W) (parts : List (List ℕ)) (t : W) → length (array s) < 2 ^ 64 → count s < 2 ^ 64 → FoldsTo R s parts t
      → (array t ≡ put_over (array s) (count s) (concat parts)) × (count t ≡ counted (count s + length (concat parts))) × (name t ≡ name s)
  all-put s [] t small few done =
      (sym (ap array done) ∙ sym (nothing-put (array s) (count s)), sym (ap count done) ∙ omega (arith, few), sym (ap name done))
  all-put s (x ∷ parts) t small few (j, first, rest) =
      let put = puts s x j first in
      let told = counts s x j first in
      let less : length (array j) ≡ length (array s) = ap length put ∙ same-length (array s) (count s) x in
      let after = all-put j parts t (omega (arith, less, small)) (omega (arith, told)) rest in
      let place : put_over (array j) (count j) (concat parts) ≡ put_over (array j) (count s + length x) (concat parts) =
      ap (λ k. put_over (array j) k (concat parts)) told ∙ as-counted (array j) (count s + length x) (concat parts) (omega (arith, less, small)) in
      let both = ap (λ a. put_over a (count s + length x) (concat parts)) put ∙ joined (array s) (count s) x (concat parts) in
      let sum : length (x ++ concat parts) ≡ length x + length (concat parts) = length-append x (concat parts) in
      (after.0 ∙ place ∙ both, omega (arith, after.1, told, sum, few), after.2 ∙ names s x j first)

  -- one line is put from the front on, and counted
  pub line-put : (s t : W) (line : List ℕ) → count s ≡ 0 → length (array s) < 2 ^ 63 → WritesInCalls R s line t
      → (array t ≡ take (length (array s)) line ++ drop (length line) (array s)) × (count t ≡ counted (length line)) × (name t ≡ name s)
  line-put s t line none small wrote =
      let put = all-put s wrote.parts t (omega (arith, small)) (omega (arith, none)) wrote.calls in
      let shown : array t ≡ put_over (array s) 0 line =
      put.0 ∙ ap (λ k. put_over (array s) k (concat wrote.parts)) none ∙ ap (λ l. put_over (array s) 0 l) wrote.whole in
      let long = ap length wrote.whole in
      (shown ∙ from-front (array s) line, omega (arith, put.1, long, none), put.2)

  -- what is displayed is told, and fits
  pub told : (o : Option (List ℕ)) (s t : W) (v : List ℕ) → (name t ≡ name s → v ≡ array t) → count s ≡ 0 → length (array s) < 2 ^ 63 → WritesText R s o t
      → count t ≤ length (array s) → IfSome o (λ line. LineDone line (array s) (Ok (count t)) v)
  told None s t v back none small wrote fits = tt
  told (Some line) s t v back none small wrote fits =
      let put = line-put s t line none small wrote in
      (back put.2 ∙ put.0, (omega (arith, put.1, fits, small), omega (arith, put.1, fits, small)))

  -- what is displayed is told, and is longer than the array
  pub cut : (o : Option (List ℕ)) (s t : W) (v : List ℕ) → (name t ≡ name s → v ≡ array t) → count s ≡ 0 → length (array s) < 2 ^ 63 → WritesText R s o t
      → length (array s) < count t → IfSome o (λ line. LineDone line (array s) (Err (NoRoom (count t))) v)
  cut None s t v back none small wrote more = tt
  cut (Some line) s t v back none small wrote more =
      let put = line-put s t line none small wrote in
      (back put.2 ∙ put.0, (ap (λ n. NoRoom n) put.1, omega (arith, put.1, more)))

-- what is true of a result that is `Ok` is true of one that is no `Err`
pub when-ok : {T E P : Type 0} → (r : Result T E) → is_err r ≡ false → OnOk r P → P
when-ok (Ok x) same p = p
when-ok (Err x) same p = absurd (let e : true ≡ false = same in cc)
