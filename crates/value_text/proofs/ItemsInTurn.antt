-- The text of an array, item by item.
use Rattle.std.proofs.Common.{◌≡◌, ◌+◌, ◌≤◌, ◌<◌, ℕ, suc, List, [], ◌∷◌, ◌++◌, true, false, length, take, drop, Result, refl, sym, ap, ◌∙◌, subst, append_assoc, append-nil, length-append, arith}
use Rattle.std.proofs.lemmas.List.{length-take-le, take_all, take-append-drop}
use Rattle.json.specs.Print.{quoted}
use Rattle.serde_json.specs.Data.{Data, array}
use Rattle.serde_json.specs.View.{items_of}
use Rattle.serde_json.specs.Written.{compact_text, items_text}
use Rattle.value_json.specs.Json.{one_member}
use Rattle.value_text.specs.Puts.{Puts, PutsWithin}
use Rattle.value_text.specs.Texts.{comma_at, items_front, key_at}
use Rattle.value_text.proofs.Elements.{IsAt, at-inside, at-taken}
use Rattle.value_text.proofs.PutsInTurn.{within-then}

later-closed : (n : ℕ) (js : List Data) → items_text true (items_of js) ≡ items_front (suc n) js ++ 93 ∷ []
later-closed n [] = refl
later-closed n (d ∷ js) = ap (λ xs. 44 ∷ (compact_text d ++ xs)) (later-closed (suc n) js) ∙ ap (λ xs. 44 ∷ xs) (sym (append_assoc (compact_text d) (items_front (suc (suc n)) js) (93 ∷ [])))

items-closed : (js : List Data) → items_text false (items_of js) ≡ items_front 0 js ++ 93 ∷ []
items-closed [] = refl
items-closed (d ∷ js) = ap (λ xs. compact_text d ++ xs) (later-closed 0 js) ∙ sym (append_assoc (compact_text d) (items_front 1 js) (93 ∷ []))

-- an array is its items in brackets
pub array-parts : (js : List Data) → compact_text (array (items_of js)) ≡ (91 ∷ items_front 0 js) ++ 93 ∷ []
array-parts js = ap (λ xs. 91 ∷ xs) (items-closed js)

pub items-more : (n : ℕ) (js : List Data) (d : Data) → items_front n (js ++ d ∷ []) ≡ items_front n js ++ (comma_at (n + length js) ++ compact_text d)
items-more n [] d =
    let e : n + 0 ≡ n = omega arith in
    ap (λ xs. comma_at n ++ xs) (append-nil (compact_text d)) ∙ ap (λ k. comma_at k ++ compact_text d) (sym e)
items-more n (x ∷ js) d =
    let e : n + suc (length js) ≡ suc n + length js = omega arith in
    let more = items-more (suc n) js d in
    let same : items_front (suc n) (js ++ d ∷ []) ≡ items_front (suc n) js ++ (comma_at (n + suc (length js)) ++ compact_text d) =
    more ∙ ap (λ k. items_front (suc n) js ++ (comma_at k ++ compact_text d)) (sym e) in
    ap (λ xs. comma_at n ++ (compact_text x ++ xs)) same
    ∙ ap (λ xs. comma_at n ++ xs) (sym (append_assoc (compact_text x) (items_front (suc n) js) (comma_at (n + suc (length js)) ++ compact_text d)))
    ∙ sym (append_assoc (comma_at n) (compact_text x ++ items_front (suc n) js) (comma_at (n + suc (length js)) ++ compact_text d))

-- the first items are no longer than all
items-front-less : (n : ℕ) (js more : List Data) → length (items_front n js) ≤ length (items_front n (js ++ more))
items-front-less n [] more = omega arith
items-front-less n (d ∷ js) more =
    let rest = items-front-less (suc n) js more in
    let some = length-append (comma_at n) (compact_text d ++ items_front (suc n) js) in
    let all = length-append (comma_at n) (compact_text d ++ items_front (suc n) (js ++ more)) in
    omega (arith, rest, some, all, length-append (compact_text d) (items_front (suc n) js), length-append (compact_text d) (items_front (suc n) (js ++ more)))

module _ (limit : ℕ) (old : List ℕ) (at : ℕ) where
  -- an array passes the limit if its first items do
  pub items-long : (front more : List Data) → limit < at + length (91 ∷ items_front 0 front) → limit < at + length (compact_text (array (items_of (front ++ more))))
  items-long front more h =
      let some = items-front-less 0 front more in
      let all : length (compact_text (array (items_of (front ++ more)))) ≡ length ((91 ∷ items_front 0 (front ++ more)) ++ 93 ∷ []) = ap length (array-parts (front ++ more)) in
      omega (arith, h, some, all, length-append (91 ∷ items_front 0 (front ++ more)) (93 ∷ []))

  -- one item more
  pub items-next : {E : Type 0} → (front : List Data) (j : Data) (i : ℕ) (mid : List ℕ) (m : ℕ) (new : List ℕ) (done : Result ℕ E) → length front ≡ i
      → Puts (91 ∷ items_front 0 front) old at mid m → PutsWithin limit (comma_at i ++ compact_text j) mid m done new
      → PutsWithin limit (91 ∷ items_front 0 (front ++ j ∷ [])) old at done new
  items-next front j i mid m new done many first step =
      let count : 0 + length front ≡ i = omega (arith, many) in
      let same : (91 ∷ items_front 0 front) ++ (comma_at i ++ compact_text j) ≡ 91 ∷ items_front 0 (front ++ j ∷ []) =
      ap (λ k. 91 ∷ (items_front 0 front ++ (comma_at k ++ compact_text j))) (sym count) ∙ ap (λ xs. 91 ∷ xs) (sym (items-more 0 front j)) in
      subst (λ xs. PutsWithin limit xs old at done new) same (within-then limit old at (91 ∷ items_front 0 front) mid m (comma_at i ++ compact_text j) new done first step)

  -- the bracket behind all items
  pub items-end : {E : Type 0} → (js : List Data) (mid : List ℕ) (m : ℕ) (new : List ℕ) (done : Result ℕ E) → Puts (91 ∷ items_front 0 js) old at mid m
      → PutsWithin limit (93 ∷ []) mid m done new → PutsWithin limit (compact_text (array (items_of js))) old at done new
  items-end js mid m new done first last =
      subst (λ xs. PutsWithin limit xs old at done new) (sym (array-parts js)) (within-then limit old at (91 ∷ items_front 0 js) mid m (93 ∷ []) new done first last)

  module _ (js : List Data) where
    pub item-next : {E : Type 0} → (i : ℕ) (j : Data) (mid : List ℕ) (m : ℕ) (new : List ℕ) (done : Result ℕ E) → IsAt js i j
        → Puts (91 ∷ items_front 0 (take i js)) old at mid m → PutsWithin limit (comma_at i ++ compact_text j) mid m done new
        → PutsWithin limit (91 ∷ items_front 0 (take (i + 1) js)) old at done new
    item-next i j mid m new done is first step =
        let less = at-inside js i j is in
        let many : length (take i js) ≡ i = length-take-le i js (omega (arith, less)) in
        subst (λ xs. PutsWithin limit (91 ∷ items_front 0 xs) old at done new) (sym (at-taken js i j is)) (items-next (take i js) j i mid m new done many first step)

    pub item-long : (i : ℕ) → limit < at + length (91 ∷ items_front 0 (take i js)) → limit < at + length (compact_text (array (items_of js)))
    item-long i h =
        subst (λ xs. limit < at + length (compact_text (array (items_of xs)))) (take-append-drop i js) (items-long (take i js) (drop i js) h)

    pub item-end : {E : Type 0} → (i : ℕ) (mid : List ℕ) (m : ℕ) (new : List ℕ) (done : Result ℕ E) → length js ≤ i → Puts (91 ∷ items_front 0 (take i js)) old at mid m
        → PutsWithin limit (93 ∷ []) mid m done new → PutsWithin limit (compact_text (array (items_of js))) old at done new
    item-end i mid m new done h first last =
        items-end js mid m new done (subst (λ xs. Puts (91 ∷ items_front 0 xs) old at mid m) (take_all i js h) first) last

-- an object of one member, part by part
pub member-parts : (l : List ℕ) (d : Data) → compact_text (one_member l d) ≡ (((123 ∷ []) ++ key_at 0 l) ++ compact_text d) ++ 125 ∷ []
member-parts l d =
    let key : List ℕ = quoted l ++ 58 ∷ [] in
    ap (λ xs. 123 ∷ xs) (sym (append_assoc key (compact_text d) (125 ∷ []) ∙ append_assoc (quoted l) (58 ∷ []) (compact_text d ++ 125 ∷ [])))
