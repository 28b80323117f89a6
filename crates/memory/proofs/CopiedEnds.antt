-- The first bytes of a list and its last, put over another: the whole list.
use Rattle.std.proofs.Common.{◌≡◌, ℕ, ◌+◌, ◌-◌, ◌≤◌, List, [], ◌++◌, length, take, drop, length-drop, drop_of_length-le, append-nil, sym, ap, ◌∙◌, arith}
use Rattle.std.proofs.lemmas.List.{take-append-drop, take-append-le, length-take-le, length-append, take-take}
use Rattle.std.proofs.lemmas.Slice.{take-put_mid, drop-put_mid}
use Rattle.std.proofs.Math.Seq.{take-length}
use borrow.Rule.Slice.PartMut.{put_mid}

-- what a part was put over, where nothing stands behind it
put-last : (a k : ℕ) (xs ys : List ℕ) → length ys ≡ k → length xs ≡ a + k → put_mid a k xs ys ≡ take a xs ++ ys
put-last a k xs ys part whole =
    let n = a + k in
    let front = take-put_mid a k xs ys n (omega (arith, part)) (omega (arith, whole)) in
    let back = drop-put_mid a k xs ys n (omega arith) (omega (arith, whole)) part in
    let none : drop n xs ≡ [] = drop_of_length-le xs (omega (arith, whole)) in
    sym (take-append-drop n (put_mid a k xs ys)) ∙ ap (λ l. l ++ drop n (put_mid a k xs ys)) front ∙ ap (λ l. (take a xs ++ ys) ++ l) (back ∙ none) ∙ append-nil (take a xs ++ ys)

pub ends-whole : (n : ℕ) (source target first last : List ℕ) → length target ≡ length source → n ≤ length source → length source ≤ n + n → first ≡ take n (drop 0 source)
    → last ≡ take n (drop (length source - n) source)
    → put_mid (length source - n) (length source - n + n - (length source - n)) (first ++ drop n target) last ≡ source
ends-whole n source target first last same some few is_first is_last =
    let end = length source - n in
    let k : end + n - end ≡ n = omega arith in
    let tail : length (drop end source) ≡ n = omega (arith, length-drop end source, some) in
    let behind : last ≡ drop end source = is_last ∙ ap (λ m. take m (drop end source)) (sym tail) ∙ take-length (drop end source) in
    let long_first : length first ≡ n = ap length is_first ∙ length-take-le n source some in
    let long_last : length last ≡ n = ap length behind ∙ tail in
    let whole : length (first ++ drop n target) ≡ end + n = omega (arith, length-append first (drop n target), long_first, length-drop n target, same, some) in
    let front : take end (first ++ drop n target) ≡ take end source = take-append-le end first (drop n target) (omega (arith, long_first, few)) ∙ ap (take end) is_first ∙ take-take end n source (omega (arith, few)) in
    rw k (put-last end n (first ++ drop n target) last long_last whole) ∙ ap (λ l. l ++ last) front ∙ ap (λ l. take end source ++ l) behind ∙ take-append-drop end source
