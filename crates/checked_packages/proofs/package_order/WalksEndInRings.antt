-- A walk from one package to one that it depends on, and the ring at its end.
use Rattle.std.proofs.Common.{◌≡◌, ◌+◌, ◌-◌, ◌<◌, ◌++◌, ◌∷◌, [], ℕ, List, Bool, true, false, ◌||◌, eqb, All, length, drop, get_or, arith, refl, sym, ap, ◌∙◌, subst, inl, inr}
use Rattle.std.specs.Cmp.{nat_eq_equiv}
use Rattle.std.specs.List.{IsDistinct, list_any}
use Rattle.std.proofs.lemmas.Bool.{cases_lt, eq-eqb, eqb-true}
use Rattle.std.proofs.lemmas.List.{get_or_append_left, get_or-drop, length-append, length-drop}
use Rattle.std.proofs.lemmas.List.Folds.{list_any-append, list_any_at}
use Rattle.std.proofs.lemmas.Map.Keys.{IsDistinct-push}
use Rattle.std.proofs.lemmas.Map.Steps.{length-le_from_distinct_below}
use Rattle.std.proofs.Math.Seq.{get_or-append_seam}
use Rattle.checked_packages.specs.Arranged.{Uses, IsChain, IsRing}

-- a walk, and the package that its last depends on
pub record IsWalk (uses : List (List ℕ)) (path : List ℕ) (place : ℕ) : Type 0 where
  pub chain : IsChain uses path
  pub next : 0 < length path → Uses uses (get_or path (length path - 1) 0) place

last_is : (path : List ℕ) (place : ℕ) → get_or (path ++ place ∷ []) (length (path ++ place ∷ []) - 1) 0 ≡ place
last_is path place =
    let long : length (path ++ place ∷ []) ≡ length path + 1 = length-append path (place ∷ []) in
    let at : length (path ++ place ∷ []) - 1 ≡ length path = omega (arith, long) in
    ap (λ n. get_or (path ++ place ∷ []) n 0) at ∙ get_or-append_seam path place [] 0

longer_chain : (uses : List (List ℕ)) (path : List ℕ) (place : ℕ) → IsWalk uses path place → IsChain uses (path ++ place ∷ [])
longer_chain uses path place walk k inside =
    let long : length (path ++ place ∷ []) ≡ length path + 1 = length-append path (place ∷ []) in
    let P : ℕ → ℕ → Type 0 = λ a b. Uses uses a b in
    let here : get_or (path ++ place ∷ []) k 0 ≡ get_or path k 0 = get_or_append_left path (place ∷ []) 0 k (omega (arith, long)) in
    elim (cases_lt (k + 1) (length path)) [
      | inl below ↦
          let there : get_or (path ++ place ∷ []) (k + 1) 0 ≡ get_or path (k + 1) 0 = get_or_append_left path (place ∷ []) 0 (k + 1) below in
          subst (λ a. P a (get_or (path ++ place ∷ []) (k + 1) 0)) (sym here) (subst (λ b. P (get_or path k 0) b) (sym there) (walk.chain k below))
      | inr above ↦
          let end : k + 1 ≡ length path = omega (arith, long) in
          let back : length path - 1 ≡ k = omega arith in
          let there : get_or (path ++ place ∷ []) (k + 1) 0 ≡ place = ap (λ n. get_or (path ++ place ∷ []) n 0) end ∙ get_or-append_seam path place [] 0 in
          subst (λ a. P a (get_or (path ++ place ∷ []) (k + 1) 0)) (sym here) (subst (λ b. P (get_or path k 0) b) (sym there)
          (subst (λ n. P (get_or path n 0) place) back (walk.next (omega arith))))
    ]

longer : (uses : List (List ℕ)) (path : List ℕ) (place next : ℕ) → IsWalk uses path place → Uses uses place next → IsWalk uses (path ++ place ∷ []) next
longer uses path place next walk used = record {
  chain = longer_chain uses path place walk;
  next = λ some. let P : ℕ → Type 0 = λ a. Uses uses a next in subst P (sym (last_is path place)) used;
}

-- the walk comes to where it was
closes : (uses : List (List ℕ)) (path : List ℕ) (next start : ℕ) → IsWalk uses path next → All (λ i. i < length uses) path
    → start < length path → get_or path start 0 ≡ next → IsRing uses (drop start path)
closes uses path next start walk within inside is =
    let P : ℕ → ℕ → Type 0 = λ a b. Uses uses a b in
    let long : length (drop start path) ≡ length path - start = length-drop start path in
    record {
      some = omega (arith, long);
      within = λ k d below.
          let here : get_or (drop start path) k d ≡ get_or path (start + k) d = get_or-drop start path k d in
          let there : get_or path (start + k) d < length uses = within (start + k) d (omega (arith, long)) in
          omega (arith, here, there);
      chain = λ k below.
          let here : get_or (drop start path) k 0 ≡ get_or path (start + k) 0 = get_or-drop start path k 0 in
          let same : start + (k + 1) ≡ (start + k) + 1 = omega arith in
          let there : get_or (drop start path) (k + 1) 0 ≡ get_or path ((start + k) + 1) 0 = get_or-drop start path (k + 1) 0 ∙ ap (λ n. get_or path n 0) same in
          subst (λ a. P a (get_or (drop start path) (k + 1) 0)) (sym here) (subst (λ b. P (get_or path (start + k) 0) b) (sym there) (walk.chain (start + k) (omega (arith, long))));
      closed =
          let at : start + (length (drop start path) - 1) ≡ length path - 1 = omega (arith, long) in
          let last : get_or (drop start path) (length (drop start path) - 1) 0 ≡ get_or path (length path - 1) 0 =
          get_or-drop start path (length (drop start path) - 1) 0 ∙ ap (λ n. get_or path n 0) at in
          let zero_more : start + 0 ≡ start = omega arith in
          let first : get_or (drop start path) 0 0 ≡ next = get_or-drop start path 0 0 ∙ ap (λ n. get_or path n 0) zero_more ∙ is in
          subst (λ a. P a (get_or (drop start path) 0 0)) (sym last) (subst (λ b. P (get_or path (length path - 1) 0) b) (sym first) (walk.next (omega arith)));
    }

-- a walk over different packages, all below a number, that comes to another one
pub record IsTour (uses : List (List ℕ)) (path : List ℕ) (place : ℕ) : Type 0 where
  pub walk : IsWalk uses path place
  pub distinct : IsDistinct eqb path
  pub new : list_any (eqb place) path ≡ false
  pub below : (q : ℕ) → list_any (eqb q) path ≡ true → q < length uses
  pub within : place < length uses

pub no_tour : (uses : List (List ℕ)) (place : ℕ) → place < length uses → IsTour uses [] place
unfolding IsDistinct
no_tour uses place within = record {
  walk = record { chain = λ k below. absurd (omega arith); next = λ some. absurd (omega arith) };
  distinct = tt;
  new = refl;
  below = λ q h. absurd (cc);
  within = within;
}

distinct_more : (uses : List (List ℕ)) (path : List ℕ) (place : ℕ) → IsTour uses path place → IsDistinct eqb (path ++ place ∷ [])
distinct_more uses path place tour = IsDistinct-push nat_eq_equiv path place tour.distinct tour.new

below_more : (uses : List (List ℕ)) (path : List ℕ) (place : ℕ) → IsTour uses path place
    → (q : ℕ) → list_any (eqb q) (path ++ place ∷ []) ≡ true → q < length uses
below_more uses path place tour q h =
    go (list_any (eqb q) path) (eqb q place) refl refl (sym (list_any-append (eqb q) path (place ∷ [])) ∙ h)
  where
    go : (a b : Bool) → list_any (eqb q) path ≡ a → eqb q place ≡ b → (a || (b || false)) ≡ true → q < length uses
    go true b e f g = tour.below q e
    go false true e f g = omega (arith, eqb-true q place f, tour.within)
    go false false e f g = absurd (cc)

all_below : (uses : List (List ℕ)) (path : List ℕ) (place : ℕ) → IsTour uses path place → All (λ i. i < length uses) (path ++ place ∷ [])
all_below uses path place tour k d below =
    let q = get_or (path ++ place ∷ []) k d in
    below_more uses path place tour q (list_any_at (eqb q) (path ++ place ∷ []) k d below (eq-eqb q q refl))

pub tour_more : (uses : List (List ℕ)) (path : List ℕ) (place next : ℕ) → IsTour uses path place → Uses uses place next → next < length uses
    → list_any (eqb next) (path ++ place ∷ []) ≡ false → IsTour uses (path ++ place ∷ []) next
tour_more uses path place next tour used within new = record {
  walk = longer uses path place next tour.walk used;
  distinct = distinct_more uses path place tour;
  new = new;
  below = below_more uses path place tour;
  within = within;
}

pub ring_at : (uses : List (List ℕ)) (path : List ℕ) (place next start : ℕ) → IsTour uses path place → Uses uses place next
    → start < length (path ++ place ∷ []) → get_or (path ++ place ∷ []) start 0 ≡ next → IsRing uses (drop start (path ++ place ∷ []))
ring_at uses path place next start tour used inside is =
    closes uses (path ++ place ∷ []) next start (longer uses path place next tour.walk used) (all_below uses path place tour) inside is

-- a tour has fewer packages than there are
pub tour_is_short : (uses : List (List ℕ)) (path : List ℕ) (place : ℕ) → IsTour uses path place → length path < length uses
tour_is_short uses path place tour =
    let few = length-le_from_distinct_below (path ++ place ∷ []) (length uses) (distinct_more uses path place tour) (below_more uses path place tour) in
    omega (arith, few, length-append path (place ∷ []))
