-- What is put behind the elements of a list, one by one.
use Rattle.std.proofs.Common.{◌≡◌, ℕ, ◌+◌, ◌<◌, List, [], ◌∷◌, ◌++◌, length, map, take, drop, get_or, ap, sym, ◌∙◌, arith}
use Rattle.std.proofs.lemmas.List.{map-append, length-append, append_assoc, drop-append-le}
use Rattle.std.proofs.lemmas.Grind.{take_at_read}

-- an element that is put at the end stands behind the old ones too
pub behind-more : {A : Type 0} (old new new' : List A) (x : A) → new ≡ old ++ drop (length old) new → new' ≡ new ++ x ∷ []
    → (drop (length old) new' ≡ drop (length old) new ++ x ∷ []) × (new' ≡ old ++ drop (length old) new')
behind-more {A = A} old new new' x kept more =
    let long : length new ≡ length old + length (drop (length old) new) = ap length kept ∙ length-append old (drop (length old) new) in
    let behind : drop (length old) new' ≡ drop (length old) new ++ x ∷ [] = ap (drop (length old)) more ∙ drop-append-le (length old) new (x ∷ []) (omega (arith, long)) in
    (behind, more ∙ ap (λ (xs : List A). xs ++ x ∷ []) kept ∙ append_assoc old (drop (length old) new) (x ∷ []) ∙ ap (λ (xs : List A). old ++ xs) (sym behind))

pub map-more : {A B : Type 0} (f : A → B) (xs : List A) (i : ℕ) (d : A) → i < length xs → map f (take (i + 1) xs) ≡ map f (take i xs) ++ f (get_or xs i d) ∷ []
map-more f xs i d h = rw (take_at_read xs i d h).1 (map-append f (take i xs) (get_or xs i d ∷ []))

-- behind the old elements stand those of the first elements of xs
pub put-more : {A B : Type 0} (f : A → B) (xs : List A) (i : ℕ) (d : A) (old new new' : List B) (x : B) → i < length xs → x ≡ f (get_or xs i d)
    → new ≡ old ++ map f (take i xs) → new' ≡ new ++ x ∷ [] → new' ≡ old ++ map f (take (i + 1) xs)
put-more {B = B} f xs i d old new new' x h is so_far more =
    more
    ∙ ap (λ (ys : List B). ys ++ x ∷ []) so_far
    ∙ append_assoc old (map f (take i xs)) (x ∷ [])
    ∙ ap (λ (y : B). old ++ (map f (take i xs) ++ y ∷ [])) is
    ∙ ap (λ (ys : List B). old ++ ys) (sym (map-more f xs i d h))
