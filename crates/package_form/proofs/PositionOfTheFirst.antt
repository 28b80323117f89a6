-- Where the first with a property stands.
use Rattle.std.proofs.Common.{◌≡◌, ◌<◌, ℕ, zero, suc, ◌+◌, Bool, true, false, cond, List, [], ◌∷◌, ◌++◌, Option, None, Some, length, get_or, refl, ap, sym, ◌∙◌, arith}
use Rattle.std.specs.List.{position, position_from}
use Rattle.std.specs.Option.{option_map, option_or}
use Rattle.std.proofs.lemmas.Iterator.Adapters.{position_from-zero}

pub or-none : {A : Type 0} (o : Option A) → option_or o None ≡ o
or-none None = refl
or-none (Some x) = refl

module _ {A : Type 0} (p : A → Bool) where
  from-suc : (i : ℕ) (xs : List A) → position_from p (i + 1) xs ≡ option_map suc (position_from p i xs)
  from-suc i [] = refl
  from-suc i (x ∷ xs) = by (p x) (from-suc (i + 1) xs)
    where
      by : (b : Bool) → position_from p (i + 1 + 1) xs ≡ option_map suc (position_from p (i + 1) xs)
          → cond b (Some (i + 1)) (position_from p (i + 1 + 1) xs) ≡ option_map suc (cond b (Some i) (position_from p (i + 1) xs))
      by true h = let e : i + 1 ≡ suc i = omega arith in ap (λ (n : ℕ). Some n) e
      by false h = h

  pub position-cons : (x : A) (xs : List A) → position p (x ∷ xs) ≡ cond (p x) (Some 0) (option_map suc (position p xs))
  position-cons x xs =
      position_from-zero p (x ∷ xs)
      ∙ ap (λ (o : Option ℕ). cond (p x) (Some 0) o) (from-suc 0 xs ∙ ap (option_map suc) (sym (position_from-zero p xs)))

  later : (o : Option ℕ) (b : Bool) (n : ℕ) → option_map suc (option_or o (cond b (Some n) None)) ≡ option_or (option_map suc o) (cond b (Some (suc n)) None)
  later None true n = refl
  later None false n = refl
  later (Some j) b n = refl

  -- behind one more
  pub position-end : (xs : List A) (x : A) → position p (xs ++ x ∷ []) ≡ option_or (position p xs) (cond (p x) (Some (length xs)) None)
  position-end [] x = position-cons x []
  position-end (y ∷ xs) x =
      position-cons y (xs ++ x ∷ [])
      ∙ by (p y) (ap (option_map suc) (position-end xs x) ∙ later (position p xs) (p x) (length xs))
      ∙ ap (λ (o : Option ℕ). option_or o (cond (p x) (Some (suc (length xs))) None)) (sym (position-cons y xs))
    where
      by : (b : Bool) → option_map suc (position p (xs ++ x ∷ [])) ≡ option_or (option_map suc (position p xs)) (cond (p x) (Some (suc (length xs))) None)
          → cond b (Some 0) (option_map suc (position p (xs ++ x ∷ []))) ≡ option_or (cond b (Some 0) (option_map suc (position p xs))) (cond (p x) (Some (suc (length xs))) None)
      by true h = refl
      by false h = h

  pub position-none : (xs : List A) → position p xs ≡ None → (k : ℕ) (d : A) → k < length xs → p (get_or xs k d) ≡ false
  position-none [] e k d l = absurd (omega (arith, l))
  position-none (x ∷ xs) e k d l = by (p x) refl (position p xs) (λ f n m. position-none xs f n d m) (sym (position-cons x xs) ∙ e) k l
    where
      by : (b : Bool) → p x ≡ b → (o : Option ℕ) → (o ≡ None → (n : ℕ) → n < length xs → p (get_or xs n d) ≡ false) → cond b (Some 0) (option_map suc o) ≡ None
          → (k : ℕ) → k < length (x ∷ xs) → p (get_or (x ∷ xs) k d) ≡ false
      by true f o rest h k l = absurd (cc)
      by false f (Some n) rest h k l = absurd (cc)
      by false f None rest h zero l = f
      by false f None rest h (suc k) l = rest refl k (omega (arith, l))
