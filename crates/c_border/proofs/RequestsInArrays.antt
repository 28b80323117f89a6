-- Requests at the front of an array, and the bytes that they ask for together.
use Rattle.std.proofs.Common.{◌≡◌, ℕ, ◌+◌, List, [], ◌∷◌, ◌++◌, length, map, take, drop, get_or, arith, refl, sym, ap, ◌∙◌}
use Rattle.std.specs.Prelude.{sum_by, ◌<◌, ◌≤◌, min}
use Rattle.std.proofs.lemmas.List.Sums.{sum_by-cons, sum_by_more_le}
use Rattle.std.proofs.lemmas.List.{take_all, take_min, drop_min, length-map}
use Rattle.adapter.specs.declared.asking.request.Request.{Request}
use Rattle.adapter.specs.Asking.{over, slot, total}
use Rattle.canonical_abi.specs.Trace

-- the bytes that these ask for
abbrev pub size_of_all : List Request → ℕ
size_of_all asked = sum_by (λ r. r.size) asked

pub total-is : (rs : List Trace.Request) → total rs ≡ size_of_all (map slot rs)
total-is [] = refl
total-is (r ∷ rs) = ap (λ n. r.size + n) (total-is rs) ∙ sym (sum_by-cons (λ r. r.size) (slot r) (map slot rs))

-- they stand at the front, as many as there is room for, and the rest is as it was
pub over-is : (old : List Request) (rs : List Trace.Request) → over old 0 rs ≡ take (length old) (map slot rs) ++ drop (length rs) old
over-is [] [] = refl
over-is [] (r ∷ rs) = refl
over-is (x ∷ xs) [] = refl
over-is (x ∷ xs) (r ∷ rs) = ap (λ l. slot r ∷ l) (over-is xs rs)

-- all of them ask for at most so many bytes
pub within-limit : (asked : List Request) (k left limit : ℕ) → length asked ≤ k → size_of_all (take k asked) + left ≡ limit → (rs : List Trace.Request) → asked ≡ map slot rs → total rs ≤ limit
within-limit asked k left limit all spent rs is =
    let whole = ap size_of_all (take_all k asked all) in let same = total-is rs ∙ ap size_of_all (sym is) in omega (arith, whole, same, spent)

-- the next of them asks for more than is left
pub above-limit : (asked : List Request) (k left limit : ℕ) (d : Request) → k < length asked → size_of_all (take k asked) + left ≡ limit → left < (get_or asked k d).size
    → (rs : List Trace.Request) → asked ≡ map slot rs → limit < total rs
above-limit asked k left limit d below spent more rs is =
    let some = sum_by_more_le (λ r. r.size) asked k d below in let same = total-is rs ∙ ap size_of_all (sym is) in omega (arith, some, same, spent, more)

-- as many as there is room for stand at the front
pub front-is : (asked old front : List Request) (n : ℕ) (rs : List Trace.Request) → asked ≡ map slot rs → n ≡ min (length asked) (length old) → front ≡ take n asked → front ++ drop n old ≡ over old 0 rs
front-is asked old front n rs is count taken =
    let turned : n ≡ min (length old) (length asked) = omega (arith, count) in
    let many : length asked ≡ length rs = ap length is ∙ length-map rs slot in
    let first : front ≡ take (length old) (map slot rs) = taken ∙ ap (λ k. take k asked) turned ∙ take_min (length old) asked ∙ ap (take (length old)) is in
    let rest : drop n old ≡ drop (length rs) old = ap (λ k. drop k old) count ∙ drop_min (length asked) old ∙ ap (λ k. drop k old) many in
    ap (λ l. l ++ drop n old) first ∙ ap (λ l. take (length old) (map slot rs) ++ l) rest ∙ sym (over-is old rs)
