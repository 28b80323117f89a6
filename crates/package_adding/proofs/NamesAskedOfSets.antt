-- What is asked of a set, one name after the other.
use Rattle.std.proofs.Common.{◌≡◌, ◌<◌, ◌+◌, ◌&&◌, ◌||◌, ℕ, Bool, true, false, List, [], ◌∷◌, map, length, take, get_or, replicate, slice_get, Some, Result, Ok, Err, OnOk, refl, ap, sym, ◌∙◌, arith}
use Rattle.std.specs.List.{list_any}
use Rattle.std.specs.Str.{bytes_eq}
use Rattle.std.proofs.lemmas.Bool.Decides.{nat_tests}
use Rattle.std.proofs.lemmas.List.{get_or-replicate, length-replicate, length-map}
use Rattle.std.proofs.lemmas.List.Folds.{list_any-append}
use Rattle.std.proofs.lemmas.Option.{get_or_from_slice_get, slice_get_within, slice_get-get_or}
use Rattle.std.proofs.lemmas.Slice.Eq.{bytes_eq-Decides}
use Rattle.package_form.specs.Closed.{is_same_package}
use Rattle.package_form.proofs.AllAndContains.{map-more}
use Rattle.package_form.proofs.MarksOneByOne.{or-false}
use Rattle.package_form.proofs.FullNamesStandForInterfaces.{package-is, same-itself}
use Rattle.package_names.specs.Asked.{has_names, is_asked, is_asked_of}
use Rattle.package_sets.proofs.GrowingLists.{map-get}
use Rattle.package_sets.specs.NamedIn.{AreMarksOf}
use Rattle.tables.specs.PackageNames.{PackageParts}
use Rattle.tables.specs.declared.tables.Resolve.{Resolve}
use Rattle.package_adding.specs.Asked.{nothing, also, AreAsked}
use Rattle.package_adding.specs.Named.{any_names}

-- ---- results

pub on-map : {T E : Type 0} (r : Result T E) (P Q : Type 0) → (P → Q) → OnOk r P → OnOk r Q
on-map (Ok x) P Q f h = f h
on-map (Err e) P Q f h = tt

pub on-both : {T E : Type 0} (r : Result T E) (P Q R : Type 0) → (P → Q → R) → OnOk r P → OnOk r Q → OnOk r R
on-both (Ok x) P Q R f g h = f g h
on-both (Err e) P Q R f g h = tt

-- ---- tests

pub or-assoc : (a b c : Bool) → ((a || b) || c) ≡ (a || (b || c))
or-assoc true b c = refl
or-assoc false b c = refl

-- packages are compared either way
same-either : (p q : PackageParts) → is_same_package p q ≡ is_same_package q p
same-either p q = by (is_same_package p q) (is_same_package q p) refl refl
  where
    swapped : (x y : PackageParts) → is_same_package x y ≡ true → is_same_package y x ≡ true
    swapped x y h = ap (is_same_package y) (package-is x y h) ∙ same-itself y

    by : (a b : Bool) → is_same_package p q ≡ a → is_same_package q p ≡ b → a ≡ b
    by true true e f = refl
    by true false e f = sym (swapped p q e) ∙ f
    by false true e f = sym e ∙ swapped q p f
    by false false e f = refl

-- one set of tests for another
pub asked-as : (set : Resolve) (s t : PackageParts → List ℕ → Bool) (a : List (List (List ℕ))) → ((q : PackageParts) (i : List ℕ) → s q i ≡ t q i) → AreAsked set s a → AreAsked set t a
asked-as set s t a same h = record { count = h.count; each = λ k q i e. h.each k q i e ∙ same q i }

-- nothing more is named
pub asked-none : (set : Resolve) (names : PackageParts → List ℕ → Bool) (a : List (List (List ℕ))) → AreAsked set names a → AreAsked set (also names nothing) a
asked-none set names a h = asked-as set names (also names nothing) a (λ q i. sym (or-false (names q i))) h

-- .. by one more of these
pub asked-more : {A B : Type 0} (set : Resolve) (names : PackageParts → List ℕ → Bool) (f : B → PackageParts → List ℕ → Bool) (g : A → B) (xs : List A) (k : ℕ) (x : A) (a : List (List (List ℕ))) → k < length xs → x ≡ get_or xs k x
    → AreAsked set (also (also names (any_names f (map g (take k xs)))) (f (g x))) a → AreAsked set (also names (any_names f (map g (take (k + 1) xs)))) a
asked-more {A} {B} set names f g xs k x a l e h = asked-as set (also (also names (any_names f (map g (take k xs)))) (f (g x))) (also names (any_names f (map g (take (k + 1) xs)))) a same h
  where
    same : (q : PackageParts) (i : List ℕ) → ((names q i || any_names f (map g (take k xs)) q i) || f (g x) q i) ≡ (names q i || any_names f (map g (take (k + 1) xs)) q i)
    same q i =
        or-assoc (names q i) (any_names f (map g (take k xs)) q i) (f (g x) q i)
        ∙ ap (λ (b : Bool). names q i || (any_names f (map g (take k xs)) q i || b)) (sym (or-false (f (g x) q i)))
        ∙ ap (λ (b : Bool). names q i || b) (sym (list_any-append (λ y. f y q i) (map g (take k xs)) (g x ∷ [])))
        ∙ ap (λ (ys : List B). names q i || any_names f ys q i) (sym (map-more g xs k x l e))

-- .. behind a condition
pub asked-then : (set : Resolve) (names test : PackageParts → List ℕ → Bool) (b : Bool) (a : List (List (List ℕ))) → b ≡ true → AreAsked set (also names test) a → AreAsked set (also names (λ q i. b && test q i)) a
asked-then set names test b a e h = asked-as set (also names test) (also names (λ q i. b && test q i)) a (λ q i. ap (λ (c : Bool). names q i || (c && test q i)) (sym e)) h

pub asked-else : (set : Resolve) (names test : PackageParts → List ℕ → Bool) (b : Bool) (a : List (List (List ℕ))) → b ≡ false → AreAsked set names a → AreAsked set (also names (λ q i. b && test q i)) a
asked-else set names test b a e h =
    asked-as set (also names nothing) (also names (λ q i. b && test q i)) a (λ q i. ap (λ (c : Bool). names q i || (c && test q i)) (sym e)) (asked-none set names a h)

-- ---- from nothing to the marks

pub nothing-asked : (set : Resolve) (a : List (List (List ℕ))) → a ≡ replicate (length set.packages) [] → AreAsked set nothing a
nothing-asked set a e = record {
  count = ap length e ∙ length-replicate (length set.packages) [];
  each = λ k q i at.
      let none : get_or a k [] ≡ [] = ap (λ (xs : List (List (List ℕ))). get_or xs k []) e ∙ get_or-replicate (length set.packages) k [] [] (slice_get_within set.packages k q at) in
      ap (list_any (bytes_eq i)) none;
}

module _ (set : Resolve) (names : PackageParts → List ℕ → Bool) where
  -- one more interface is asked of the packages of its package's name
  pub asked-one : (p : PackageParts) (n : List ℕ) (old new : List (List (List ℕ))) → length new ≡ length old
      → ((k : ℕ) (q : PackageParts) (m : List ℕ) → k < length old → slice_get set.packages k ≡ Some q → is_asked new k m ≡ (is_asked old k m || (is_same_package p q && bytes_eq m n)))
      → AreAsked set names old → AreAsked set (also names (λ q i. is_same_package q p && bytes_eq i n)) new
  asked-one p n old new count each h = record {
    count = count ∙ h.count;
    each = λ k q i e.
        let l : k < length old = omega (arith, slice_get_within set.packages k q e, h.count) in
        each k q i l e
        ∙ ap (λ (b : Bool). b || (is_same_package p q && bytes_eq i n)) (h.each k q i e)
        ∙ ap (λ (b : Bool). names q i || (b && bytes_eq i n)) (same-either p q);
  }

  some-name : (ns : List (List ℕ)) → has_names ns ≡ true → (n : List ℕ) × (list_any (bytes_eq n) ns ≡ true)
  some-name [] h = absurd (cc)
  some-name (n ∷ ns) h = (n, ap (λ (b : Bool). b || list_any (bytes_eq n) ns) ((bytes_eq-Decides n n).1 refl))

  name-some : (n : List ℕ) (ns : List (List ℕ)) → list_any (bytes_eq n) ns ≡ true → has_names ns ≡ true
  name-some n [] h = absurd (cc)
  name-some n (m ∷ ns) h = grind (arith, nat_tests)

  pub marks-told : (a : List (List (List ℕ))) (packages interfaces : List Bool) → AreAsked set names a → packages ≡ map has_names a → interfaces ≡ map (is_asked_of a) set.interfaces
      → AreMarksOf (λ q i. names q i ≡ true) set packages interfaces
  marks-told a packages interfaces asks ps is = record {
    each_package = ap length ps ∙ length-map a has_names ∙ asks.count;
    each_interface = ap length is ∙ length-map set.interfaces (is_asked_of a);
    packages_are = λ k q e.
        let l : k < length a = omega (arith, slice_get_within set.packages k q e, asks.count) in
        let ns = get_or a k [] in
        let mark : get_or packages k false ≡ has_names ns =
        ap (λ (bs : List Bool). get_or bs k false) ps ∙ get_or_from_slice_get (map has_names a) k (has_names ns) false (map-get has_names a k ns (slice_get-get_or a k [] l)) in (
          λ h. let n = some-name ns (sym mark ∙ h) in (n.0, sym (asks.each k q n.0 e) ∙ n.1),
          λ n. mark ∙ name-some n.0 ns (asks.each k q n.0 e ∙ n.1),
        );
    interfaces_are = λ k i q at of.
        let mark = ap (λ (bs : List Bool). get_or bs k false) is
        ∙ get_or_from_slice_get (map (is_asked_of a) set.interfaces) k (is_asked_of a i) false (map-get (is_asked_of a) set.interfaces k i at)
        ∙ asks.each i.«package».0 q i.name of in
        (λ h. sym mark ∙ h, λ h. mark ∙ h);
  }
