-- What is known of a writer's bytes, from one call to the next.
use Rattle.std.proofs.Common.{◌≡◌, ◌+◌, drop, take-add, ℕ, List, ◌++◌, take, Option, Some, None, sym, append_assoc, ◌∙◌, ap}
use Rattle.std.specs.Io.KnownBytes.{Appends}

-- the next part of a text goes on from the part before
pub appends_next : (a b c : Option (List ℕ)) (bs rest : List ℕ) (i n : ℕ) → rest ≡ drop i bs → Appends a b (take i bs) → Appends b c (take n rest) → Appends a c (take (i + n) bs)
appends_next None b c bs rest i n split h k = tt
appends_next (Some xs) None c bs rest i n split h k = absurd h
appends_next (Some xs) (Some ys) None bs rest i n split h k = absurd k
appends_next (Some xs) (Some ys) (Some zs) bs rest i n split h k =
    let whole : take (i + n) bs ≡ take i bs ++ take n rest = take-add i n bs ∙ ap (λ v. take i bs ++ take n v) (sym split) in
    k ∙ (ap (λ v. v ++ take n rest) h ∙ (append_assoc xs (take i bs) (take n rest) ∙ ap (λ v. xs ++ v) (sym whole)))
