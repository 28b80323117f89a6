-- Names of a scope, each apart from those behind it.
use Rattle.std.proofs.Common.{◌≡◌, ℕ, zero, suc, ◌<◌, List, [], ◌∷◌, ◌++◌, map, take, length, get_or, ap, sym, subst, ◌∙◌, arith, Contains, inl, inr}
use Rattle.std.proofs.lemmas.List.{length-map, length-take, get_or_default, get_or-map, get_or-take}
use Rattle.package_form.specs.Scope.{lowered, IsMetBefore, AreDistinct}
use Rattle.package_form.proofs.AllAndContains.{contains-here, contains-later, contains-either, contains-map, contains-unmap, compared}
use Rattle.tree_meaning.proofs.ReferencesOfDefinitions.{Every, every-append, every-front, every-back, every-mono}
use Rattle.package_form.proofs.NamesStandForOneRow.{distinct-back}

pub every-from : {A : Type 0} (P : A → Type 0) (xs : List A) → ((x : A) → Contains xs x → P x) → Every P xs
every-from P [] f = tt
every-from P (x ∷ xs) f = (f x (contains-here x xs), every-from P xs (λ y c. f y (contains-later x y xs c)))

pub every-contained : {A : Type 0} (P : A → Type 0) (xs : List A) (x : A) → Every P xs → Contains xs x → P x
every-contained P [] x h c = absurd (omega (arith, c.1))
every-contained P (y ∷ xs) x h (zero, l, e) = subst P e h.0
every-contained P (y ∷ xs) x h (suc k, l, e) = every-contained P xs x h.1 (k, omega (arith, l), e)

-- the names are others, whatever the case of letters
abbrev pub AreOthers : List ℕ → List ℕ → Type 0
AreOthers n m = lowered m ≡ lowered n → ⊥

abbrev pub IsFresh : List (List ℕ) → List ℕ → Type 0
IsFresh ns n = Every (AreOthers n) ns

abbrev pub AreApart : List (List ℕ) → Type 0
AreApart [] = Unit {0}
AreApart (n ∷ ns) = IsFresh ns n × AreApart ns

-- ---- the same by places

pub only : {A : Type 0} (x y : A) → Contains (x ∷ []) y → x ≡ y
only x y (zero, l, e) = e
only x y (suc k, l, e) = absurd (omega (arith, l))

pub apart-distinct : (ns : List (List ℕ)) → AreApart ns → AreDistinct ns
apart-distinct ns h = record { each = λ k l. by ns k h l }
  where
    by : (ns : List (List ℕ)) (k : ℕ) → AreApart ns → k < length ns → IsMetBefore ns k → ⊥
    by [] k h l met = absurd (omega (arith, l))
    by (n ∷ ns) zero h l met = absurd (omega (arith, met.1))
    by (n ∷ ns) (suc k) h l met =
        let m = get_or ns k [] in
        let there : Contains ns m = (k, omega (arith, l), get_or_default ns k m [] (omega (arith, l))) in
        elim (contains-either (lowered n ∷ []) (map lowered (take k ns)) (lowered m) met) [
          | inl c ↦ every-contained (AreOthers n) ns m h.0 there (sym (only (lowered n) (lowered m) c))
          | inr c ↦ by ns k h.1 (omega (arith, l)) c
        ]

pub are-apart : (ns : List (List ℕ)) → AreDistinct ns → AreApart ns
are-apart [] h = tt
are-apart (n ∷ ns) h = (every-from (AreOthers n) ns fresh, are-apart ns (distinct-back (n ∷ []) ns h))
  where
    fresh : (m : List ℕ) → Contains ns m → AreOthers n m
    fresh m c e =
        let at : get_or ns c.0 [] ≡ m = get_or_default ns c.0 [] m c.1 ∙ c.2 in
        h.each (suc c.0) (omega (arith, c.1)) (0, omega arith, sym e ∙ ap lowered (sym at))

-- two places of one name are one
before : (ns : List (List ℕ)) (a b : ℕ) → AreDistinct ns → a < b → b < length ns → lowered (get_or ns a []) ≡ lowered (get_or ns b []) → ⊥
before ns a b d l m e =
    let x = get_or ns a [] in
    let long : length (take b ns) ≡ b = length-take b ns ∙ omega (arith, m) in
    let at : get_or (take b ns) a x ≡ x = get_or-take b ns a x l ∙ get_or_default ns a x [] (omega (arith, l, m)) in
    d.each b m (subst (Contains (map lowered (take b ns))) e (contains-map lowered (take b ns) x (a, omega (arith, l, long), at)))

one-name : (ns : List (List ℕ)) (a b : ℕ) → AreDistinct ns → a < length ns → b < length ns → lowered (get_or ns a []) ≡ lowered (get_or ns b []) → a ≡ b
one-name ns a b d l m e = elim (compared a b) [
  | inl q ↦ absurd (before ns a b d q m e)
  | inr q ↦ elim q [
    | inl r ↦ absurd (before ns b a d r l (sym e))
    | inr r ↦ r
  ]
]

from-places : (ns : List (List ℕ)) → ((a b : ℕ) → a < b → b < length ns → lowered (get_or ns a []) ≡ lowered (get_or ns b []) → ⊥) → AreDistinct ns
from-places ns h = record {
  each = λ b l met.
      let x = contains-unmap lowered (take b ns) _ met in
      let a = x.1.0 in
      let long : length (take b ns) ≡ b = length-take b ns ∙ omega (arith, l) in
      let q : a < b = omega (arith, x.1.1, long) in
      let at : get_or ns a [] ≡ x.0 = get_or_default ns a [] x.0 (omega (arith, q, l)) ∙ sym (get_or-take b ns a x.0 q) ∙ x.1.2 in
      h a b q l (ap lowered at ∙ x.2);
}

-- in an order without repeats
pub order-distinct : (ns : List (List ℕ)) (name : ℕ → List ℕ) (order : List ℕ) → ((k : ℕ) → name k ≡ get_or ns k []) → AreDistinct ns
    → ((k : ℕ) → k < length order → get_or order k 0 < length ns)
    → ((a b : ℕ) → a < length order → b < length order → get_or order a 0 ≡ get_or order b 0 → a ≡ b) → AreDistinct (map name order)
order-distinct ns name order is d in_range one = from-places (map name order) (λ a b l m e.
    let q : b < length order = omega (arith, m, length-map order name) in
    let p : a < length order = omega (arith, l, q) in
    let at : (k : ℕ) → k < length order → get_or (map name order) k [] ≡ get_or ns (get_or order k 0) [] = λ k x. get_or-map name order k 0 [] x ∙ is (get_or order k 0) in
    let same = one-name ns (get_or order a 0) (get_or order b 0) d (in_range a p) (in_range b q) (ap lowered (sym (at a p)) ∙ e ∙ ap lowered (at b q)) in
    omega (arith, l, one a b p q same))

-- ---- parts

pub apart-append : (xs ys : List (List ℕ)) → AreApart xs → AreApart ys → Every (IsFresh ys) xs → AreApart (xs ++ ys)
apart-append [] ys h q f = q
apart-append (x ∷ xs) ys h q f = (every-append (AreOthers x) xs ys h.0 f.0, apart-append xs ys h.1 q f.1)

pub apart-front : (xs ys : List (List ℕ)) → AreApart (xs ++ ys) → AreApart xs
apart-front [] ys h = tt
apart-front (x ∷ xs) ys h = (every-front (AreOthers x) xs ys h.0, apart-front xs ys h.1)

pub apart-back : (xs ys : List (List ℕ)) → AreApart (xs ++ ys) → AreApart ys
apart-back [] ys h = h
apart-back (x ∷ xs) ys h = apart-back xs ys h.1

pub apart-fresh : (xs ys : List (List ℕ)) → AreApart (xs ++ ys) → Every (IsFresh ys) xs
apart-fresh [] ys h = tt
apart-fresh (x ∷ xs) ys h = (every-back (AreOthers x) xs ys h.0, apart-fresh xs ys h.1)

-- another name between them
pub apart-insert : (n : List ℕ) (xs ys : List (List ℕ)) → IsFresh (xs ++ ys) n → AreApart (xs ++ ys) → AreApart (xs ++ n ∷ ys)
apart-insert n [] ys f h = (f, h)
apart-insert n (x ∷ xs) ys f h = (
  every-append (AreOthers x) xs (n ∷ ys) (every-front (AreOthers x) xs ys h.0) ((λ e. f.0 (sym e)), every-back (AreOthers x) xs ys h.0),
  apart-insert n xs ys f.1 h.1,
)

-- other names behind them, of those that stood there
pub apart-exchange : (xs ys zs : List (List ℕ)) → AreApart (xs ++ ys) → ((P : List ℕ → Type 0) → Every P ys → Every P zs) → AreApart zs → AreApart (xs ++ zs)
apart-exchange xs ys zs h keep q =
    apart-append xs zs (apart-front xs ys h) q (every-mono (IsFresh ys) (IsFresh zs) (λ x f. keep (AreOthers x) f) xs (apart-fresh xs ys h))

-- .. and between them
pub apart-between : (ws xs ys zs : List (List ℕ)) → AreApart (ws ++ (xs ++ zs)) → ((P : List ℕ → Type 0) → Every P xs → Every P ys) → AreApart ys → AreApart (ws ++ (ys ++ zs))
apart-between ws xs ys zs h keep q =
    let behind = apart-back ws (xs ++ zs) h in
    apart-exchange ws (xs ++ zs) (ys ++ zs) h (λ P e. every-append P ys zs (keep P (every-front P xs zs e)) (every-back P xs zs e))
    (apart-append ys zs q (apart-back xs zs behind) (keep (IsFresh zs) (apart-fresh xs zs behind)))

pub none-distinct : AreDistinct []
none-distinct = apart-distinct [] tt
