-- The interfaces and the worlds among the entries of a file.
use Rattle.std.proofs.Common.{◌≡◌, ℕ, zero, suc, ◌+◌, ◌<◌, inl, inr, subst, List, [], ◌∷◌, ◌++◌, Option, None, Some, map, take, length, get_or, refl, ap, sym, ◌∙◌, arith, All, Contains}
use Rattle.std.specs.List.{cons_option, filter_map}
use Rattle.wit_tokens.specs.Syntax.{FileEntry, AnInterface, AWorld}
use Rattle.tree_meaning.specs.Declarations.{InterfaceTree, interface_tree, world_tree, interface_of, world_of, names_of_trees}
use Rattle.tree_meaning.specs.Imports.{Imports}
use Rattle.tree_meaning.specs.Resolves.{HasKnownNamesOf, IsKnownWorldOf}
use Rattle.tree_meaning.specs.Knowing.{KnowsFileEntry, LacksFileEntry, RefusesUnknown}
use Rattle.tables.specs.declared.error.ResolveError.TheVariants as error
use Rattle.std.proofs.lemmas.List.Elements.{filter_map-append}
use Rattle.package_form.proofs.AllAndContains.{map-more, all-none, all-cons, all-head, all-tail, contains-here, contains-later}

-- what an element gives stands behind what those before it give
pub given-at : {A B C : Type 0} (h : A → Option B) (g : C → A) (xs : List C) (k : ℕ) (x : C) (y d : B) → k < length xs → x ≡ get_or xs k x → h (g x) ≡ Some y
    → (length (filter_map h (map g (take k xs))) < length (filter_map h (map g xs))) × (get_or (filter_map h (map g xs)) (length (filter_map h (map g (take k xs)))) d ≡ y)
given-at h g [] k x y d l is e = absurd (omega (arith, l))
given-at h g (z ∷ xs) zero x y d l is e =
    let same : h (g z) ≡ Some y = ap (λ v. h (g v)) (sym is) ∙ e in
    rw same (omega arith, refl)
given-at {A} {B} h g (z ∷ xs) (suc k) x y d l is e = by (h (g z)) (given-at h g xs k x y d (omega (arith, l)) is e)
  where
    front : List B
    front = filter_map h (map g (take k xs))

    all : List B
    all = filter_map h (map g xs)

    by : (o : Option B) → (length front < length all) × (get_or all (length front) d ≡ y)
        → (length (cons_option o front) < length (cons_option o all)) × (get_or (cons_option o all) (length (cons_option o front)) d ≡ y)
    by None r = r
    by (Some w) r = (omega (arith, r.0), r.1)

pub found : {A B : Type 0} (h : A → Option B) (xs : List A) (x : A) (y : B) → Contains xs x → h x ≡ Some y → Contains (filter_map h xs) y
found h [] x y c e = absurd (omega (arith, c.1))
found h (z ∷ xs) x y (zero, l, is) e =
    let same : h z ≡ Some y = ap h is ∙ e in
    rw same (contains-here y (filter_map h xs))
found {A} {B} h (z ∷ xs) x y (suc k, l, is) e = by (h z) (found h xs x y (k, omega (arith, l), is) e)
  where
    by : (o : Option B) → Contains (filter_map h xs) y → Contains (cons_option o (filter_map h xs)) y
    by None r = r
    by (Some w) r = contains-later w y (filter_map h xs) r

-- one entry more
pub given-next : {A B C : Type 0} (h : A → Option B) (g : C → A) (xs : List C) (k : ℕ) (x : C) → k < length xs → x ≡ get_or xs k x
    → filter_map h (map g (take (k + 1) xs)) ≡ filter_map h (map g (take k xs)) ++ cons_option (h (g x)) []
given-next h g xs k x l is = ap (filter_map h) (map-more g xs k x l is) ∙ filter_map-append h (map g (take k xs)) (g x ∷ [])

module _ (m : Imports) (is : List InterfaceTree) where
  pub interfaces-known : (es : List FileEntry) → All (KnowsFileEntry m is) es → All (HasKnownNamesOf m is) (filter_map interface_of es)
  interfaces-known [] h = all-none (HasKnownNamesOf m is)
  interfaces-known (AnInterface n xs ∷ es) h =
      all-cons (HasKnownNamesOf m is) (interface_tree n xs) (filter_map interface_of es) (all-head (KnowsFileEntry m is) (AnInterface n xs) es h)
      (interfaces-known es (all-tail (KnowsFileEntry m is) (AnInterface n xs) es h))
  interfaces-known (AWorld at n ws ∷ es) h = interfaces-known es (all-tail (KnowsFileEntry m is) (AWorld at n ws) es h)

  pub worlds-known : (es : List FileEntry) → All (KnowsFileEntry m is) es → All (IsKnownWorldOf m (names_of_trees is)) (filter_map world_of es)
  worlds-known [] h = all-none (IsKnownWorldOf m (names_of_trees is))
  worlds-known (AnInterface n xs ∷ es) h = worlds-known es (all-tail (KnowsFileEntry m is) (AnInterface n xs) es h)
  worlds-known (AWorld at n ws ∷ es) h =
      all-cons (IsKnownWorldOf m (names_of_trees is)) (world_tree n ws) (filter_map world_of es) (all-head (KnowsFileEntry m is) (AWorld at n ws) es h)
      (worlds-known es (all-tail (KnowsFileEntry m is) (AWorld at n ws) es h))

  pub entry-lacks : (es : List FileEntry) (e : FileEntry) (name : List ℕ) → filter_map interface_of es ≡ is → Contains es e → LacksFileEntry m is e name
      → RefusesUnknown m is (filter_map world_of es) (error.Unknown name)
  entry-lacks es (AnInterface n xs) name same c h = inl (interface_tree n xs, subst (λ (ts : List InterfaceTree). Contains ts (interface_tree n xs)) same (found interface_of es (AnInterface n xs) (interface_tree n xs) c refl), h)
  entry-lacks es (AWorld at n ws) name same c h = inr (world_tree n ws, found world_of es (AWorld at n ws) (world_tree n ws) c refl, h)
