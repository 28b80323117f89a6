-- What is kept of a list by marks of the places of a rising function.
use Rattle.std.proofs.Common.{◌≡◌, ◌≤◌, ◌<◌, inl, inr, ℕ, zero, suc, ◌+◌, ◌-◌, Bool, true, false, List, [], ◌∷◌, length, map, get_or, slice_get, Some, refl, ap, sym, ◌∙◌, arith, true≢false}
use Rattle.std.proofs.lemmas.List.{length-map}
use Rattle.std.proofs.lemmas.Option.{slice_get_within}
use Rattle.set_rows.specs.Places.{place}
use Rattle.package_sets.proofs.KeptParts.KeptTogether.{AreAll, place-left}
use Rattle.set_rows.proofs.KeptElementsAndPlaces.{kept-at, length-kept}
use Rattle.package_sets.proofs.GrowingLists.{map-get}
use Rattle.package_sets.proofs.OwnedRows.RowsAreOwned.{cut}
use Rattle.set_rows.proofs.PlacesOfMarked.{place-none, place-yes}
use Rattle.std.specs.List.{items_where_true}

-- just these places are marked, and each is behind the one before it
pub record AreImages (bs : List Bool) (f : ℕ → ℕ) (n : ℕ) : Type 0 where
  pub rising : (t u : ℕ) → t < u → u < n → f t < f u
  pub marked : (t : ℕ) → t < n → get_or bs (f t) false ≡ true
  pub only : (k : ℕ) → get_or bs k false ≡ true → (t : ℕ) × (t < n) × (f t ≡ k)

pub mark-within : (bs : List Bool) (k : ℕ) → get_or bs k false ≡ true → k < length bs
mark-within [] k e = absurd (true≢false (sym e))
mark-within (b ∷ bs) zero e = omega arith
mark-within (b ∷ bs) (suc k) e = let l = mark-within bs k e in omega (arith, l)

module _ (bs : List Bool) (f : ℕ → ℕ) (n : ℕ) (h : AreImages bs f n) where
  none-between : (t a m : ℕ) → ((u : ℕ) → u < t → f u < a) → ((u : ℕ) → t ≤ u → u < n → m ≤ f u) → AreAll false bs a (m - a)
  none-between t a m below above = record { each = λ x k. no-mark x k (get_or bs (a + x) false) refl }
    where
      no-mark : (x : ℕ) → x < m - a → (b : Bool) → get_or bs (a + x) false ≡ b → get_or bs (a + x) false ≡ false
      no-mark x k false e = e
      no-mark x k true e =
          let p = h.only (a + x) e in
          elim (cut p.0 t) [ inl l ↦ absurd (omega (arith, below p.0 l, p.2)) | inr l ↦ absurd (omega (arith, above p.0 l p.1, p.2, k)) ]

  count-below : (t m : ℕ) → t ≤ n → ((u : ℕ) → u < t → f u < m) → ((u : ℕ) → t ≤ u → u < n → m ≤ f u) → place bs m ≡ t
  count-below zero m l below above = ap (place bs) (from-none m) ∙ (place-left bs 0 (m - 0) (none-between 0 0 m (λ u k. absurd (omega (arith, k))) above) ∙ place-none bs)
    where
      from-none : (m : ℕ) → m ≡ 0 + (m - 0)
      from-none m = omega arith
  count-below (suc t) m l below above = from (count-below t (f t) (omega (arith, l)) (λ u k. h.rising u t k (omega (arith, l))) behind)
    where
      last : f t < m
      last = below t (omega arith)

      whole : m ≡ suc (f t) + (m - suc (f t))
      whole = omega (arith, last)

      behind : (u : ℕ) → t ≤ u → u < n → f t ≤ f u
      behind u k j = elim (cut t u) [ inl q ↦ (let r = h.rising t u q j in omega (arith, r)) | inr q ↦ (let e : u ≡ t = omega (arith, k, q) in omega (arith, ap f e)) ]

      here : (u : ℕ) → u < suc t → f u < suc (f t)
      here u k = elim (cut u t) [ inl q ↦ (let r = h.rising u t q (omega (arith, l)) in omega (arith, r)) | inr q ↦ (let e : u ≡ t = omega (arith, k, q) in omega (arith, ap f e)) ]

      from : place bs (f t) ≡ t → place bs m ≡ suc t
      from before = ap (place bs) whole ∙ (place-left bs (suc (f t)) (m - suc (f t)) (none-between (suc t) (suc (f t)) m here above) ∙ (place-yes bs (f t) (h.marked t (omega (arith, l))) ∙ omega (arith, before)))

  pub image-place : (t : ℕ) → t < n → place bs (f t) ≡ t
  image-place t l = count-below t (f t) (omega (arith, l)) (λ u k. h.rising u t k l) behind
    where
      behind : (u : ℕ) → t ≤ u → u < n → f t ≤ f u
      behind u k j = elim (cut t u) [ inl q ↦ (let r = h.rising t u q j in omega (arith, r)) | inr q ↦ (let e : u ≡ t = omega (arith, k, q) in omega (arith, ap f e)) ]

  pub images-length : {A : Type 0} (xs : List A) → length bs ≡ length xs → length (items_where_true bs xs) ≡ n
  images-length xs e = length-kept bs xs (sym e) ∙ count-below n (length bs) (omega arith) (λ u k. mark-within bs (f u) (h.marked u k)) (λ u k j. absurd (omega (arith, k, j)))

-- lists of one length that have the same elements
pub same-lists : {A : Type 0} (xs ys : List A) → length xs ≡ length ys → ((k : ℕ) (y : A) → slice_get ys k ≡ Some y → slice_get xs k ≡ Some y) → xs ≡ ys
same-lists [] [] l h = refl
same-lists [] (y ∷ ys) l h = absurd (omega (arith, l))
same-lists (x ∷ xs) [] l h = absurd (omega (arith, l))
same-lists (x ∷ xs) (y ∷ ys) l h =
    let first : Some x ≡ Some y = h 0 y refl in
    let same : x ≡ y = cc in
    let rest : xs ≡ ys = same-lists xs ys (omega (arith, l)) (λ k z e. h (suc k) z e) in
    cc

module _ {A B : Type 0} (bs : List Bool) (xs : List A) (f : ℕ → ℕ) (ys : List B) (h : AreImages bs f (length ys)) (counted : length bs ≡ length xs) where
  -- what is kept is what stands at these places
  pub kept-is : (put : A → B) → ((t : ℕ) (y : B) → slice_get ys t ≡ Some y → (x : A) × (slice_get xs (f t) ≡ Some x) × (put x ≡ y)) → map put (items_where_true bs xs) ≡ ys
  kept-is put told = same-lists (map put (items_where_true bs xs)) ys (length-map (items_where_true bs xs) put ∙ images-length bs f (length ys) h xs counted) each
    where
      each : (t : ℕ) (y : B) → slice_get ys t ≡ Some y → slice_get (map put (items_where_true bs xs)) t ≡ Some y
      each t y e =
          let l = slice_get_within ys t y e in
          let x = told t y e in
          ap (slice_get (map put (items_where_true bs xs))) (sym (image-place bs f (length ys) h t l)) ∙ (map-get put (items_where_true bs xs) (place bs (f t)) x.0 (kept-at bs xs (f t) x.0 (h.marked t l) x.1) ∙ ap Some x.2)

-- a function whose places before m rise, as those that a function back from them gives, and behind which others stand one behind the other
pub rising-by : (f back : ℕ → ℕ) (m base n : ℕ) → ((t : ℕ) → t < m → t < n → (f t < base) × (back (f t) ≡ t)) → ((x y : ℕ) → x ≤ y → back x ≤ back y) → ((t : ℕ) → m ≤ t → t < n → f t ≡ base + (t - m))
    → (t u : ℕ) → t < u → u < n → f t < f u
rising-by f back m base n front order behind t u l k = elim (cut t m) [
  | inl a ↦ elim (cut u m) [
    | inl b ↦
        let x = front t a (omega (arith, l, k)) in
        let y = front u b k in
        elim (cut (f t) (f u)) [ inl g ↦ g | inr g ↦ absurd (omega (arith, order (f u) (f t) g, x.1, y.1, l)) ]
    | inr b ↦
        let x = front t a (omega (arith, l, k)) in
        omega (arith, x.0, behind u b k)
  ]
  | inr a ↦ omega (arith, behind t a (omega (arith, l, k)), behind u (omega (arith, a, l)) k, l, a)
]
