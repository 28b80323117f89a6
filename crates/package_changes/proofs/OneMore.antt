-- What holds of a list that is made item by item, after one more item.
use Rattle.std.proofs.Common.{◌≡◌, ℕ, ◌+◌, ◌<◌, List, [], ◌∷◌, ◌++◌, map, take, get_or, All, length, ap, sym, subst, ◌∙◌}
use Rattle.std.proofs.lemmas.Grind.{take_at_read}
use Rattle.std.proofs.lemmas.List.{map-append}
use Rattle.std.proofs.lemmas.List.Elements.{All-push}

module _ {A : Type 0} (js ks : List A) (j : A) (more : ks ≡ js ++ j ∷ []) where
  -- the items were made of the first ones of another list
  pub mapped-more : {B : Type 0} (f : A → B) (ps : List B) (i : ℕ) (d : B) → i < length ps → map f js ≡ take i ps → f j ≡ get_or ps i d → map f ks ≡ take (i + 1) ps
  mapped-more f ps i d h so at =
      ap (map f) more ∙ map-append f js (j ∷ []) ∙ ap (λ l. l ++ f j ∷ []) so ∙ ap (λ x. take i ps ++ x ∷ []) at ∙ sym (take_at_read ps i d h).1

  pub all-more : (P : A → Type 0) → All P js → P j → All P ks
  all-more P all here = subst (All P) (sym more) (All-push P js j all here)
