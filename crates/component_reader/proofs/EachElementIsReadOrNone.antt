-- Lists of which each element is read, or none is.
use Rattle.std.proofs.Common.{◌≡◌, ◌⊎◌, inl, inr, ℕ, zero, suc, ◌+◌, ◌<◌, List, [], ◌∷◌, ◌++◌, length, take, get_or, Option, None, Some, Result, Ok, Err, refl, ap, sym, ◌∙◌, arith}
use Rattle.std.specs.Option.{option_map}
use Rattle.component_reader.specs.declared.unread.Unread.{Unread}
use Rattle.component_reader.specs.declared.unread.Unread.TheVariants as unread
use Rattle.component_reader.specs.Types.{Becomes, both_found, all_found, ReadsFound}
use Rattle.package_form.proofs.NamesMetOneByOne.{take-more}

module _ {A B : Type 0} (f : A → Option B) where
  more : (a : Option B) (b c : Option (List B)) (ys : List B) (y : B) → both_found (λ z zs. z ∷ zs) a b ≡ Some ys
      → ((zs : List B) → b ≡ Some zs → c ≡ Some (zs ++ y ∷ [])) → both_found (λ z zs. z ∷ zs) a c ≡ Some (ys ++ y ∷ [])
  more None b c ys y e h = absurd (cc)
  more (Some z) None c ys y e h = absurd (cc)
  more (Some z) (Some zs) c ys y e h =
      ap (both_found (λ w ws. w ∷ ws) (Some z)) (h zs refl) ∙ ap (λ (o : Option (List B)). by o (zs ++ y ∷ [])) e
    where
      by : Option (List B) → List B → Option (List B)
      by None ws = None
      by (Some us) ws = Some (us ++ y ∷ [])

  found-end : (xs : List A) (ys : List B) (x : A) (y : B) → all_found f xs ≡ Some ys → f x ≡ Some y → all_found f (xs ++ x ∷ []) ≡ Some (ys ++ y ∷ [])
  found-end [] [] x y e is = ap (λ o. both_found (λ z zs. z ∷ zs) o (Some [])) is
  found-end [] (z ∷ zs) x y e is = absurd (cc)
  found-end (w ∷ xs) ys x y e is = more (f w) (all_found f xs) (all_found f (xs ++ x ∷ [])) ys y e (λ zs h. found-end xs zs x y h is)

  module _ (xs : List A) (k : ℕ) (x : A) (l : k < length xs) (is : x ≡ get_or xs k x) where
    pub found-more : (ys : List B) (y : B) → all_found f (take k xs) ≡ Some ys → f x ≡ Some y → all_found f (take (k + 1) xs) ≡ Some (ys ++ y ∷ [])
    found-more ys y e q = ap (all_found f) (take-more xs k x l is) ∙ found-end (take k xs) ys x y e q

  none-right : (a : Option B) → both_found (λ z zs. z ∷ zs) a None ≡ None
  none-right None = refl
  none-right (Some a) = refl

  found-none : (xs : List A) (k : ℕ) (x : A) → k < length xs → x ≡ get_or xs k x → f x ≡ None → all_found f xs ≡ None
  found-none [] k x l is e = absurd (omega arith)
  found-none (y ∷ xs) zero x l is e = ap (λ o. both_found (λ z zs. z ∷ zs) o (all_found f xs)) (ap f (sym is) ∙ e)
  found-none (y ∷ xs) (suc k) x l is e = ap (both_found (λ z zs. z ∷ zs) (f y)) (found-none xs k x (omega arith) is e) ∙ none-right (f y)

  pub refused-at : (xs : List A) (k : ℕ) (x : A) → k < length xs → x ≡ get_or xs k x → (e : Unread)
      → (e ≡ unread.NoMemory) ⊎ ((e ≡ unread.NotThisShape) × (f x ≡ None)) → ReadsFound (all_found f xs) (Err e)
  refused-at xs k x l is e (inl q) = inl q
  refused-at xs k x l is e (inr q) = inr (q.0, found-none xs k x l is q.1)

  item-is : (xs : List A) (k : ℕ) (d : A) → k < length xs → get_or xs k d ≡ get_or xs k (get_or xs k d)
  item-is [] k d l = absurd (omega arith)
  item-is (x ∷ xs) zero d l = refl
  item-is (x ∷ xs) (suc k) d l = item-is xs k d (omega arith)

  module _ (xs : List A) (k : ℕ) (d : A) (l : k < length xs) where
    pub found-next : (ys : List B) (y : B) → all_found f (take k xs) ≡ Some ys → f (get_or xs k d) ≡ Some y → all_found f (take (k + 1) xs) ≡ Some (ys ++ y ∷ [])
    found-next ys y e q = found-more xs k (get_or xs k d) l (item-is xs k d l) ys y e q

    pub refused-next : (e : Unread) → (e ≡ unread.NoMemory) ⊎ ((e ≡ unread.NotThisShape) × (f (get_or xs k d) ≡ None)) → ReadsFound (all_found f xs) (Err e)
    refused-next e q = refused-at xs k (get_or xs k d) l (item-is xs k d l) e q

-- what is read of a part is none where the part is
pub refused-part : {A B : Type 0} (g : A → B) (part : Option A) (e : Unread) → (e ≡ unread.NoMemory) ⊎ ((e ≡ unread.NotThisShape) × (part ≡ None))
    → (e ≡ unread.NoMemory) ⊎ ((e ≡ unread.NotThisShape) × (option_map g part ≡ None))
refused-part g part e (inl q) = inl q
refused-part g part e (inr q) = inr (q.0, ap (option_map g) q.1)

-- a part has become this, and so has the whole
pub becomes-within : {A B T : Type 0} (g : A → B) (o : Option A) (new : A) (r : Result T Unread) → Becomes o new r → Becomes (option_map g o) (g new) r
becomes-within g o new (Ok x) h = ap (option_map g) h
becomes-within g o new (Err e) h = refused-part g o e h
