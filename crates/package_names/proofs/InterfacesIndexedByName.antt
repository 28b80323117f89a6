-- The places of interfaces, put one after the other under their packages and names.
use Rattle.std.proofs.Common.{◌≡◌, ◌<◌, ◌≢◌, ℕ, zero, suc, ◌+◌, Bool, true, false, cond, ◌&&◌, List, [], ◌∷◌, ◌++◌, map, Option, None, Some, length, take, get_or, set, slice_get, is_some, refl, ap, sym, subst, ◌∙◌, arith}
use Rattle.std.specs.declared.alloc.Global.{Global}
use Rattle.std.specs.declared.string.String.{String}
use Rattle.std.specs.List.{position}
use Rattle.std.specs.Map.{lookup}
use Rattle.std.specs.Option.{option_or}
use Rattle.std.specs.Str.{bytes_eq}
use Rattle.std.specs.String.{string_bytes}
use Rattle.std.proofs.lemmas.List.{length-take}
use Rattle.std.proofs.lemmas.List.Quantifiers.{position-Some}
use Rattle.std.proofs.lemmas.Slice.Eq.{bytes_eq-Decides}
use Rattle.std.proofs.lemmas.Option.{get_or_from_slice_get}
use Rattle.tables.specs.PackageNames.{PackageParts}
use Rattle.tables.specs.declared.tables.Interface.{Interface}
use Rattle.tables.specs.declared.tables.Resolve.{Resolve}
use Rattle.tables.proofs.NamesEarlierTypes.{grouped-at}
use Rattle.package_form.specs.Closed.{is_same_package}
use Rattle.package_names.specs.Indexed.{is_package_named, is_interface_named, place_entry, placed, placed_at, IsIndex}
use Rattle.package_form.proofs.NamesMetOneByOne.{take-more}
use Rattle.package_form.proofs.FullNamesStandForInterfaces.{package-is, same-itself}
use Rattle.package_form.proofs.PositionOfTheFirst.{or-none, position-end, position-none}

-- ---- places by names

pub looked-up : (n : List ℕ) (es : List (String Global × ℕ)) → lookup (bytes_eq n) (map place_entry es) ≡ lookup (λ s. bytes_eq n (string_bytes s)) es
looked-up n [] = refl
looked-up n (e ∷ es) = ap (λ (o : Option ℕ). cond (bytes_eq n (string_bytes e.0)) (Some e.1) o) (looked-up n es)

pub lookup-end : (n : List ℕ) (es : List (List ℕ × ℕ)) (m : List ℕ) (place : ℕ) → lookup (bytes_eq n) (es ++ (m, place) ∷ []) ≡ option_or (lookup (bytes_eq n) es) (cond (bytes_eq n m) (Some place) None)
lookup-end n [] m place = refl
lookup-end n (e ∷ es) m place = by (bytes_eq n e.0) (lookup-end n es m place)
  where
    by : (b : Bool) → lookup (bytes_eq n) (es ++ (m, place) ∷ []) ≡ option_or (lookup (bytes_eq n) es) (cond (bytes_eq n m) (Some place) None)
        → cond b (Some e.1) (lookup (bytes_eq n) (es ++ (m, place) ∷ [])) ≡ option_or (cond b (Some e.1) (lookup (bytes_eq n) es)) (cond (bytes_eq n m) (Some place) None)
    by true h = refl
    by false h = h

-- a name that has a place keeps it
pub kept : (es : List (List ℕ × ℕ)) (m : List ℕ) (place : ℕ) → is_some (lookup (bytes_eq m) es) ≡ true → (n : List ℕ) → lookup (bytes_eq n) es ≡ option_or (lookup (bytes_eq n) es) (cond (bytes_eq n m) (Some place) None)
kept es m place there n = by (bytes_eq n m) refl
  where
    first : (o : Option ℕ) → is_some o ≡ true → o ≡ option_or o (Some place)
    first None e = absurd (cc)
    first (Some j) e = refl

    by : (b : Bool) → bytes_eq n m ≡ b → lookup (bytes_eq n) es ≡ option_or (lookup (bytes_eq n) es) (cond b (Some place) None)
    by true e = first (lookup (bytes_eq n) es) (ap (λ (s : List ℕ). is_some (lookup (bytes_eq s) es)) ((bytes_eq-Decides n m).0 e) ∙ there)
    by false e = sym (or-none (lookup (bytes_eq n) es))

pub none-there : {A : Type 0} (o : Option A) → is_some o ≡ false → o ≡ None
none-there None e = refl
none-there (Some x) e = absurd (cc)

-- ---- one more interface

get-set-other : {A : Type 0} (xs : List A) (k j : ℕ) (x : A) → j ≢ k → slice_get (set xs k x) j ≡ slice_get xs j
get-set-other [] k j x h = refl
get-set-other (y ∷ xs) zero zero x h = absurd (h refl)
get-set-other (y ∷ xs) zero (suc j) x h = refl
get-set-other (y ∷ xs) (suc k) zero x h = refl
get-set-other (y ∷ xs) (suc k) (suc j) x h = get-set-other xs k j x (λ e. h (ap suc e))

get-set-same : {A : Type 0} (xs : List A) (k : ℕ) (x : A) → k < length xs → slice_get (set xs k x) k ≡ Some x
get-set-same [] k x l = absurd (omega (arith, l))
get-set-same (y ∷ xs) zero x l = refl
get-set-same (y ∷ xs) (suc k) x l = get-set-same xs k x (omega (arith, l))

module _ (ps : List PackageParts) (p : PackageParts) (i : Interface) (of : slice_get ps i.«package».0 ≡ Some p) where
  named-by : (q : PackageParts) (n : List ℕ) → is_interface_named ps q n i ≡ (is_same_package q p && bytes_eq n i.name)
  named-by q n = ap (λ (o : Option PackageParts). is_package_named q o && bytes_eq n i.name) of

  -- there is a first of its package's name
  pub has-first : position (is_same_package p) ps ≡ None → i.«package».0 < length ps → ⊥
  has-first none l =
      let no = position-none (is_same_package p) ps none i.«package».0 p l in
      let e = get_or_from_slice_get ps i.«package».0 p p of in
      let yes = ap (is_same_package p) e ∙ same-itself p in
      absurd (cc)

  module _ (names : List (List (List ℕ × ℕ))) (k place : ℕ) (new : List (List ℕ × ℕ)) (first : position (is_same_package p) ps ≡ Some k) (count : length names ≡ length ps)
      (put : (n : List ℕ) → lookup (bytes_eq n) new ≡ option_or (placed (slice_get names k) n) (cond (bytes_eq n i.name) (Some place) None)) where
    at : (k < length ps) × (is_same_package p (get_or ps k p) ≡ true) × ((j : ℕ) → j < k → is_same_package p (get_or ps j p) ≡ false)
    at = position-Some (is_same_package p) ps k p first

    same : get_or ps k p ≡ p
    same = sym (package-is p (get_or ps k p) at.1)

    elsewhere : (q : PackageParts) (n : List ℕ) → is_same_package q p ≡ false → (o : Option ℕ) → position (is_same_package q) ps ≡ o → placed_at (set names k new) o n ≡ placed_at names o n
    elsewhere q n other None e = refl
    elsewhere q n other (Some j) e =
        let there = position-Some (is_same_package q) ps j p e in
        let apart : j ≢ k = λ s. (let yes : is_same_package q p ≡ true = ap (is_same_package q) (sym (ap (λ (m : ℕ). get_or ps m p) s ∙ same)) ∙ there.1 in cc) in
        ap (λ (o : Option (List (List ℕ × ℕ))). placed o n) (get-set-other names k j new apart)

    pub put-one : (q : PackageParts) (n : List ℕ)
        → placed_at (set names k new) (position (is_same_package q) ps) n ≡ option_or (placed_at names (position (is_same_package q) ps) n) (cond (is_interface_named ps q n i) (Some place) None)
    put-one q n = by (is_same_package q p) refl ∙ ap (λ (b : Bool). option_or (placed_at names (position (is_same_package q) ps) n) (cond b (Some place) None)) (sym (named-by q n))
      where
        here : placed_at (set names k new) (position (is_same_package p) ps) n ≡ option_or (placed_at names (position (is_same_package p) ps) n) (cond (bytes_eq n i.name) (Some place) None)
        here =
            ap (λ (o : Option ℕ). placed_at (set names k new) o n) first
            ∙ ap (λ (o : Option (List (List ℕ × ℕ))). placed o n) (get-set-same names k new (omega (arith, at.0, count)))
            ∙ put n
            ∙ ap (λ (o : Option ℕ). option_or (placed_at names o n) (cond (bytes_eq n i.name) (Some place) None)) (sym first)

        by : (b : Bool) → is_same_package q p ≡ b
            → placed_at (set names k new) (position (is_same_package q) ps) n ≡ option_or (placed_at names (position (is_same_package q) ps) n) (cond (b && bytes_eq n i.name) (Some place) None)
        by true e =
            subst (λ (r : PackageParts). placed_at (set names k new) (position (is_same_package r) ps) n ≡ option_or (placed_at names (position (is_same_package r) ps) n) (cond (bytes_eq n i.name) (Some place) None))
            (sym (package-is q p e)) here
        by false e = elsewhere q n e (position (is_same_package q) ps) refl ∙ sym (or-none (placed_at names (position (is_same_package q) ps) n))

-- ---- all of them

pub one-more-indexed : (ps : List PackageParts) (is : List Interface) (k : ℕ) (x : Interface) (old new : List (List (List ℕ × ℕ))) → k < length is → x ≡ get_or is k x → IsIndex ps (take k is) old
    → length new ≡ length ps
    → ((q : PackageParts) (n : List ℕ) → placed_at new (position (is_same_package q) ps) n ≡ option_or (placed_at old (position (is_same_package q) ps) n) (cond (is_interface_named ps q n x) (Some k) None))
    → IsIndex ps (take (k + 1) is) new
one-more-indexed ps is k x old new l e index count put = record {
  count = count;
  each = λ q n.
      let at : length (take k is) ≡ k = omega (arith, length-take k is, l) in
      put q n
      ∙ ap (λ (o : Option ℕ). option_or o (cond (is_interface_named ps q n x) (Some k) None)) (index.each q n)
      ∙ ap (λ (m : ℕ). option_or (position (is_interface_named ps q n) (take k is)) (cond (is_interface_named ps q n x) (Some m) None)) (sym at)
      ∙ sym (position-end (is_interface_named ps q n) (take k is) x)
      ∙ ap (position (is_interface_named ps q n)) (sym (take-more is k x l e));
}

pub within-packages : (r : Resolve) (k : ℕ) (x : Interface) → k < length r.interfaces → x ≡ get_or r.interfaces k x → x.«package».0 < length r.packages
within-packages r k x l e = grouped-at (length r.packages) 0 r.interfaces k x r.grouped l (sym e)
