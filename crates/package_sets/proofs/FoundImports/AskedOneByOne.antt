-- What imports ask of a set, one after the other, and where it is found.
use Rattle.std.proofs.Common.{◌≡◌, ◌<◌, ℕ, ◌+◌, Bool, true, false, ◌&&◌, ◌||◌, List, [], ◌∷◌, ◌++◌, length, replicate, slice_get, Option, None, Some, refl, ap, sym, ◌∙◌, arith, All}
use Rattle.std.specs.List.{position}
use Rattle.std.specs.Str.{bytes_eq}
use Rattle.std.proofs.lemmas.List.{length-replicate}
use Rattle.std.proofs.lemmas.Option.{slice_get_within}
use Rattle.std.proofs.lemmas.Slice.Eq.{bytes_eq-Decides}
use Rattle.package_form.specs.Closed.{is_same_package}
use Rattle.package_form.proofs.AllAndContains.{all-none, all-cons, all-append, all-mono}
use Rattle.package_names.specs.Asked.{is_asked, is_asked_interface}
use Rattle.package_names.specs.Indexed.{is_package_named, is_interface_named, interface_place}
use Rattle.package_sets.proofs.PackageTables.TableIsInForm.{or-left, or-right}
use Rattle.package_sets.specs.Asking.{AsksForOne, AsksFor}
use Rattle.tables.proofs.ClosedTypesRowByRow.{split, both}
use Rattle.tables.specs.PackageNames.{PackageParts}
use Rattle.tables.specs.declared.tables.Interface.{Interface}
use Rattle.tables.specs.declared.tables.Resolve.{Resolve}

module _ (set closed : Resolve) where
  pub asks-nothing : (asked : List (List (List ℕ))) → asked ≡ replicate (length set.packages) [] → AsksFor set closed [] asked
  asks-nothing asked e = record { count = ap length e ∙ length-replicate (length set.packages) []; each = all-none (AsksForOne set closed asked) }

  module _ (i : Interface) (old : List (List (List ℕ))) (is : List Interface) (asks : AsksFor set closed is old) where
    -- an import more
    pub asks-more : (p : PackageParts) (new : List (List (List ℕ))) → slice_get closed.packages i.«package».0 ≡ Some p → length new ≡ length old
        → ((k : ℕ) (q : PackageParts) (n : List ℕ) → k < length old → slice_get set.packages k ≡ Some q → is_asked new k n ≡ (is_asked old k n || (is_same_package p q && bytes_eq n i.name)))
        → AsksFor set closed (is ++ i ∷ []) new
    asks-more p new of count each = record {
      count = count ∙ asks.count;
      each = all-append (AsksForOne set closed new) is (i ∷ []) (all-mono (AsksForOne set closed old) (AsksForOne set closed new) grown is asks.each)
          (all-cons (AsksForOne set closed new) i [] here (all-none (AsksForOne set closed new)));
    }
      where
        within : (k : ℕ) (q : PackageParts) → slice_get set.packages k ≡ Some q → k < length old
        within k q at = omega (arith, slice_get_within set.packages k q at, asks.count)

        grown : (x : Interface) → AsksForOne set closed old x → AsksForOne set closed new x
        grown x h r q k stands at same = each k q x.name (within k q at) at ∙ or-left (is_asked old k x.name) (is_same_package p q && bytes_eq x.name i.name) (h r q k stands at same)

        here : AsksForOne set closed new i
        here r q k stands at same =
            let is : r ≡ p = (let f = stands in let g = of in cc) in
            each k q i.name (within k q at) at
            ∙ or-right (is_asked old k i.name) (is_same_package p q && bytes_eq i.name i.name)
            (both (is_same_package p q) (bytes_eq i.name i.name) (ap (λ (s : PackageParts). is_same_package s q) (sym is) ∙ same) ((bytes_eq-Decides i.name i.name).1 refl))

    -- .. of no package
    pub asks-none : slice_get closed.packages i.«package».0 ≡ None → AsksFor set closed (is ++ i ∷ []) old
    asks-none none = record {
      count = asks.count;
      each = all-append (AsksForOne set closed old) is (i ∷ []) asks.each (all-cons (AsksForOne set closed old) i [] (λ r q k stands. absurd (cc)) (all-none (AsksForOne set closed old)));
    }

  -- an interface that was asked for is found among all
  pub place-among-all : (asked : List (List (List ℕ))) (i : Interface) (p : PackageParts) → slice_get closed.packages i.«package».0 ≡ Some p → AsksForOne set closed asked i
      → position (is_asked_interface set.packages asked p i.name) set.interfaces ≡ interface_place set p i.name
  place-among-all asked i p of asks = ap (λ (has : Interface → Bool). position has set.interfaces) same
    where
      test : (x : Interface) (o : Option PackageParts) → slice_get set.packages x.«package».0 ≡ o → (b : Bool) → bytes_eq i.name x.name ≡ b → ((is_package_named p o && b) && is_asked asked x.«package».0 x.name) ≡ (is_package_named p o && b)
      test x None e b f = refl
      test x (Some q) e true f = by (is_same_package p q) refl
        where
          by : (d : Bool) → is_same_package p q ≡ d → ((d && true) && is_asked asked x.«package».0 x.name) ≡ (d && true)
          by true g = ap (is_asked asked x.«package».0) (sym ((bytes_eq-Decides i.name x.name).0 f)) ∙ asks p q x.«package».0 of e g
          by false g = refl
      test x (Some q) e false f = by (is_same_package p q)
        where
          by : (d : Bool) → ((d && false) && is_asked asked x.«package».0 x.name) ≡ (d && false)
          by true = refl
          by false = refl

      same : is_asked_interface set.packages asked p i.name ≡ is_interface_named set.packages p i.name
      same = λ j x. (test x (slice_get set.packages x.«package».0) refl (bytes_eq i.name x.name) refl) j
