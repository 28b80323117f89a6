-- The names of all elements, one after the other.
use Rattle.std.proofs.Common.{◌≡◌, ◌<◌, ◌≤◌, ◌+◌, ℕ, List, [], ◌∷◌, ◌++◌, map, flat_map, take, length, get_or, sym, ap, subst, ◌∙◌, All}
use Rattle.std.proofs.lemmas.List.{take_all}
use Rattle.std.proofs.lemmas.Grind.{take_at_read}
use Rattle.atoms.specs.Label.{IsLabel}
use Rattle.package_form.proofs.AllAndContains.{all-none, all-cons, all-append, map-more, flat_map-append, flat_map-one}

module _ {A : Type 0} (xs : List A) (k : ℕ) where
  pub labels-more : (f : A → List ℕ) (x : A) → k < length xs → x ≡ get_or xs k x → All IsLabel (map f (take k xs)) → IsLabel (f x) → All IsLabel (map f (take (k + 1) xs))
  labels-more f x l e h p = subst (All IsLabel) (sym (map-more f xs k x l e)) (all-append IsLabel (map f (take k xs)) (f x ∷ []) h (all-cons IsLabel (f x) [] p (all-none IsLabel)))

  pub labels-whole : (f : A → List ℕ) → length xs ≤ k → All IsLabel (map f (take k xs)) → All IsLabel (map f xs)
  labels-whole f l h = subst (λ (ys : List A). All IsLabel (map f ys)) (take_all k xs l) h

  pub lists-more : (f : A → List (List ℕ)) (x : A) → k < length xs → x ≡ get_or xs k x → All IsLabel (flat_map f (take k xs)) → All IsLabel (f x) → All IsLabel (flat_map f (take (k + 1) xs))
  lists-more f x l e h p =
      let last : take (k + 1) xs ≡ take k xs ++ x ∷ [] = (take_at_read xs k x l).1 ∙ ap (λ (y : A). take k xs ++ y ∷ []) (sym e) in
      let all : flat_map f (take (k + 1) xs) ≡ flat_map f (take k xs) ++ f x =
      ap (flat_map f) last ∙ (flat_map-append f (take k xs) (x ∷ []) ∙ ap (λ (ns : List (List ℕ)). flat_map f (take k xs) ++ ns) (flat_map-one f x)) in
      subst (All IsLabel) (sym all) (all-append IsLabel (flat_map f (take k xs)) (f x) h p)

  pub lists-whole : (f : A → List (List ℕ)) → length xs ≤ k → All IsLabel (flat_map f (take k xs)) → All IsLabel (flat_map f xs)
  lists-whole f l h = subst (λ (ys : List A). All IsLabel (flat_map f ys)) (take_all k xs l) h

pub listed-more : (ns : List (List ℕ)) (k : ℕ) (n : List ℕ) → k < length ns → n ≡ get_or ns k n → All IsLabel (take k ns) → IsLabel n → All IsLabel (take (k + 1) ns)
listed-more ns k n l e h p =
    let last : take (k + 1) ns ≡ take k ns ++ n ∷ [] = (take_at_read ns k n l).1 ∙ ap (λ (m : List ℕ). take k ns ++ m ∷ []) (sym e) in
    subst (All IsLabel) (sym last) (all-append IsLabel (take k ns) (n ∷ []) h (all-cons IsLabel n [] p (all-none IsLabel)))
