-- The packages that are needed, one after the other.
use Rattle.std.proofs.Common.{◌≡◌, ◌≤◌, ◌<◌, ◌⊎◌, inl, inr, ℕ, zero, suc, ◌+◌, Bool, true, false, List, [], ◌∷◌, length, get_or, set as put, slice_get, Some, refl, ap, sym, subst, ◌∙◌, arith, true≢false}
use Rattle.std.proofs.lemmas.List.{length-set}
use Rattle.std.proofs.lemmas.Option.{slice_get_within, slice_get-get_or}
use Rattle.set_rows.specs.Reaches.{Marks, padded}
use Rattle.package_sets.specs.Restricted.{AreNeeded, AddsNeeded, IsReachedIn}
use Rattle.package_sets.specs.Imports.{AreNeededBy}
use Rattle.set_rows.proofs.MarksOfReached.{set-has, set-keeps, length-padded}
use Rattle.set_rows.proofs.PaddedMarks.{padded-none, padded-get, padded-only}
use Rattle.tables.specs.declared.tables.Interface.{Interface}
use Rattle.tables.specs.declared.tables.Resolve.{Resolve}

-- ---- the packages of the first n interfaces

pub record AddsNeededSoFar (s : Resolve) (m : Marks) (n : ℕ) (old new : List Bool) : Type 0 where
  pub count : length new ≡ length old
  pub keeps : (k : ℕ) → get_or old k false ≡ true → get_or new k false ≡ true
  pub others : (i : ℕ) (x : Interface) → i < n → slice_get s.interfaces i ≡ Some x → get_or m.interfaces i true ≡ true → get_or new x.«package».0 true ≡ true
  pub only : (k : ℕ) → get_or new k false ≡ true → (get_or old k false ≡ true) ⊎ IsReachedIn s m k

pub put-only : (bs : List Bool) (k j : ℕ) → get_or (put bs k true) j false ≡ true → (get_or bs j false ≡ true) ⊎ (j ≡ k)
put-only [] k j e = inl e
put-only (b ∷ bs) zero zero e = inr refl
put-only (b ∷ bs) zero (suc j) e = inl e
put-only (b ∷ bs) (suc k) zero e = inl e
put-only (b ∷ bs) (suc k) (suc j) e = up (put-only bs k j e)
  where
    up : (get_or bs j false ≡ true) ⊎ (j ≡ k) → (get_or bs j false ≡ true) ⊎ (suc j ≡ suc k)
    up (inl h) = inl h
    up (inr h) = inr (ap suc h)

pub put-here : (bs : List Bool) (k : ℕ) → k < length bs → get_or (put bs k true) k false ≡ true
put-here [] k h = absurd (omega arith)
put-here (b ∷ bs) zero h = refl
put-here (b ∷ bs) (suc k) h = put-here bs k (omega arith)

put-stays : (bs : List Bool) (k j : ℕ) → get_or bs j false ≡ true → get_or (put bs k true) j false ≡ true
put-stays [] k j e = e
put-stays (b ∷ bs) zero zero e = refl
put-stays (b ∷ bs) zero (suc j) e = e
put-stays (b ∷ bs) (suc k) zero e = e
put-stays (b ∷ bs) (suc k) (suc j) e = put-stays bs k j e

pub adds-needed-more : (s : Resolve) (m : Marks) (n : ℕ) (x : Interface) (old marks next : List Bool) → n < length s.interfaces → x ≡ get_or s.interfaces n x
    → AddsNeededSoFar s m n old marks → ((get_or m.interfaces n true ≡ true) × (next ≡ put marks x.«package».0 true)) ⊎ ((get_or m.interfaces n true ≡ false) × (next ≡ marks))
    → AddsNeededSoFar s m (n + 1) old next
adds-needed-more s m n x before marks next within at a (inl (h, e)) = rw e record {
  count = length-set marks x.«package».0 true ∙ a.count;
  keeps = λ k l. put-stays marks x.«package».0 k (a.keeps k l);
  others = λ i y l f g. old i y (cases i l) f g;
  only = λ k q. elim (put-only marks x.«package».0 k q) [ inl p ↦ a.only k p | inr p ↦ inr (n, x, found, h, sym p) ];
}
  where
    found : slice_get s.interfaces n ≡ Some x
    found = slice_get-get_or s.interfaces n x within ∙ ap Some (sym at)

    cases : (i : ℕ) → i < n + 1 → (i < n) ⊎ (i ≡ n)
    cases i l = grind arith

    old : (i : ℕ) (y : Interface) → (i < n) ⊎ (i ≡ n) → slice_get s.interfaces i ≡ Some y → get_or m.interfaces i true ≡ true → get_or (put marks x.«package».0 true) y.«package».0 true ≡ true
    old i y (inl l) f g = set-keeps marks x.«package».0 y.«package».0 (a.others i y l f g)
    old i y (inr q) f g =
        let e : Some y ≡ Some x = sym f ∙ (ap (slice_get s.interfaces) q ∙ found) in
        let same : y ≡ x = cc in
        rw same (set-has marks x.«package».0)
adds-needed-more s m n x before marks next within at a (inr (h, e)) = rw e record {
  count = a.count;
  keeps = a.keeps;
  others = λ i y l f g. old i y (cases i l) f g;
  only = a.only;
}
  where
    cases : (i : ℕ) → i < n + 1 → (i < n) ⊎ (i ≡ n)
    cases i l = grind arith

    old : (i : ℕ) (y : Interface) → (i < n) ⊎ (i ≡ n) → slice_get s.interfaces i ≡ Some y → get_or m.interfaces i true ≡ true → get_or marks y.«package».0 true ≡ true
    old i y (inl l) f g = a.others i y l f g
    old i y (inr q) f g = absurd (true≢false (sym g ∙ (ap (λ k. get_or m.interfaces k true) q ∙ h)))

pub adds-needed-all : (s : Resolve) (m : Marks) (n : ℕ) (old new : List Bool) → length s.interfaces ≤ n → AddsNeededSoFar s m n old new → AddsNeeded s m old new
adds-needed-all s m n old new h a = record {
  count = a.count;
  keeps = a.keeps;
  others = λ k (i, x, f, g, e). subst (λ j. get_or new j true ≡ true) e (a.others i x (omega (arith, slice_get_within s.interfaces i x f)) f g);
  only = a.only;
}

-- ---- the packages that are needed

pub needed-own : (s : Resolve) (own : ℕ) (m : Marks) (none old new : List Bool) → none ≡ padded (length s.packages) [] → old ≡ put none own true → AddsNeeded s m old new → AreNeeded s own m new
needed-own s own m none old new e g a = record {
  count = a.count ∙ count;
  own_one = λ h. a.keeps own (subst (λ (bs : List Bool). get_or bs own false ≡ true) (sym marked) (put-here (padded (length s.packages) []) own (omega (arith, h, length-padded (length s.packages) []))));
  others = a.others;
  only = λ k h. elim (a.only k h) [ inl q ↦ from k q | inr q ↦ inr q ];
}
  where
    marked : old ≡ put (padded (length s.packages) []) own true
    marked = g ∙ ap (λ bs. put bs own true) e

    count : length old ≡ length s.packages
    count = ap length marked ∙ (length-set (padded (length s.packages) []) own true ∙ length-padded (length s.packages) [])

    from : (k : ℕ) → get_or old k false ≡ true → (k ≡ own) ⊎ IsReachedIn s m k
    from k q = elim (put-only (padded (length s.packages) []) own k (subst (λ (bs : List Bool). get_or bs k false ≡ true) marked q)) [
      | inl p ↦ absurd (true≢false (sym p ∙ padded-none (length s.packages) k))
      | inr p ↦ inl p
    ]

pub needed-by : (s : Resolve) (packages : List Bool) (m : Marks) (old new : List Bool) → old ≡ padded (length s.packages) packages → AddsNeeded s m old new → AreNeededBy s packages m new
needed-by s packages m old new e a = record {
  count = a.count ∙ (ap length e ∙ length-padded (length s.packages) packages);
  given = λ k l h. a.keeps k (subst (λ (bs : List Bool). get_or bs k false ≡ true) (sym e) (padded-get (length s.packages) packages k l h));
  others = a.others;
  only = λ k h. elim (a.only k h) [ inl q ↦ inl (padded-only (length s.packages) packages k (subst (λ (bs : List Bool). get_or bs k false ≡ true) e q)) | inr q ↦ inr q ];
}
