-- The packages of full names that are read one after the other.
use Rattle.std.proofs.Common.{◌≡◌, ◌⊎◌, inl, inr, ◌≤◌, ◌<◌, ◌-◌, ℕ, zero, suc, ◌+◌, Bool, true, false, cond, ◌||◌, ◌&&◌, nat_le, nat_lt, List, [], ◌∷◌, ◌++◌, take, length, slice_get, Option, Some, refl, ap, sym, ◌∙◌, arith, length-take, eqb-true}
use Rattle.std.specs.List.{list_any}
use Rattle.std.proofs.lemmas.Bool.{leb-true, cases_lt}
use Rattle.tables.specs.PackageNames.{PackageParts}
use Rattle.tables.specs.Tables.{are_grouped}
use Rattle.tables.specs.declared.tables.Interface.{Interface}
use Rattle.tables.proofs.ClosedTypesRowByRow.{split}
use Rattle.package_form.specs.Reached.{is_interface_of}
use Rattle.package_form.specs.Closed.{is_same_package, are_apart, has_each_package}
use Rattle.package_form.specs.Ids.{package_id}
use Rattle.package_form.proofs.FullNamesStandForInterfaces.{package-there, same-itself, package-is, apart-places}
use Rattle.component_reader.specs.Component.{has_name, with_package, last_package}

-- just the first `next` packages were read
pub record HasPackages (ps : List PackageParts) (next : ℕ) (read : List PackageParts) : Type 0 where
  pub read_are : read ≡ take next ps
  pub within : next ≤ length ps

get-take : (ps : List PackageParts) (n m : ℕ) → m < n → slice_get (take n ps) m ≡ slice_get ps m
get-take ps zero m l = absurd (omega (arith, l))
get-take [] (suc n) m l = refl
get-take (p ∷ ps) (suc n) zero l = refl
get-take (p ∷ ps) (suc n) (suc m) l = get-take ps n m (omega (arith, l))

take-one : (ps : List PackageParts) (k : ℕ) (p : PackageParts) → slice_get ps k ≡ Some p → take k ps ++ p ∷ [] ≡ take (suc k) ps
take-one [] k p e = absurd (cc)
take-one (q ∷ ps) zero p e = let is : q ≡ p = cc in ap (λ (x : PackageParts). x ∷ []) (sym is)
take-one (q ∷ ps) (suc k) p e = ap (λ (xs : List PackageParts). q ∷ xs) (take-one ps k p e)

below : (ps : List PackageParts) (k : ℕ) (p : PackageParts) → slice_get ps k ≡ Some p → k < length ps
below [] k p e = absurd (cc)
below (q ∷ ps) zero p e = omega arith
below (q ∷ ps) (suc k) p e = omega (arith, below ps k p e)

module _ (ps : List PackageParts) (apart : are_apart ps ≡ true) (k : ℕ) (p : PackageParts) (at : slice_get ps k ≡ Some p) where
  -- a package that is read again
  again : with_package (take (suc k) ps) p ≡ take (suc k) ps
  again =
      let counted : length (take (suc k) ps) - 1 ≡ k = omega (arith, length-take (suc k) ps, below ps k p at) in
      let last : slice_get (take (suc k) ps) (length (take (suc k) ps) - 1) ≡ Some p =
      ap (slice_get (take (suc k) ps)) counted ∙ get-take ps (suc k) k (omega arith) ∙ at in
      ap (λ (b : Bool). cond b (take (suc k) ps) (take (suc k) ps ++ p ∷ [])) (ap (λ (o : Option PackageParts). has_name o p) last ∙ same-itself p)

  -- the next one
  new : with_package (take k ps) p ≡ take (suc k) ps
  new = ap (λ (b : Bool). cond b (take k ps) (take k ps ++ p ∷ [])) (other k at) ∙ take-one ps k p at
    where
      other : (k : ℕ) → slice_get ps k ≡ Some p → has_name (slice_get (take k ps) (length (take k ps) - 1)) p ≡ false
      other zero e = refl
      other (suc j) e =
          let low : j < length ps = omega (arith, below ps (suc j) p e) in
          let q = package-there ps j low in
          let counted : length (take (suc j) ps) - 1 ≡ j = omega (arith, length-take (suc j) ps, low) in
          let last : slice_get (take (suc j) ps) (length (take (suc j) ps) - 1) ≡ Some q.0 =
          ap (slice_get (take (suc j) ps)) counted ∙ get-take ps (suc j) j (omega arith) ∙ q.1 in
          ap (λ (o : Option PackageParts). has_name o p) last ∙ by q.0 q.1 (is_same_package q.0 p) refl
        where
          by : (q : PackageParts) → slice_get ps j ≡ Some q → (b : Bool) → is_same_package q p ≡ b → b ≡ false
          by q f false h = refl
          by q f true h =
              let same = package-is q p h in
              let places = apart-places ps apart j (suc j) p (f ∙ ap (λ (x : PackageParts). Some x) same) e in
              absurd (omega (arith, places))

  pub package-next : (next : ℕ) (read : List PackageParts) → HasPackages ps next read → k ≤ next → next ≤ k + 1
      → HasPackages ps (k + 1) (with_package read p) × (last_package (with_package read p) ≡ package_id k)
  package-next next read has low high =
      let whole = all (cases_lt k next) in
      let one : suc k ≡ k + 1 = omega arith in
      let within = below ps k p at in (
        record { read_are = whole ∙ ap (λ (n : ℕ). take n ps) one; within = omega (arith, within) },
        ap (λ (xs : List PackageParts). last_package xs) whole ∙ ap package_id (let counted : length (take (suc k) ps) - 1 ≡ k = omega (arith, length-take (suc k) ps, within) in counted),
      )
    where
      all : (k < next) ⊎ (next ≤ k) → with_package read p ≡ take (suc k) ps
      all (inl l) =
          let same : next ≡ suc k = omega (arith, l, high) in
          ap (λ (xs : List PackageParts). with_package xs p) (has.read_are ∙ ap (λ (n : ℕ). take n ps) same) ∙ again
      all (inr l) =
          let same : next ≡ k = omega (arith, l, low) in
          ap (λ (xs : List PackageParts). with_package xs p) (has.read_are ∙ ap (λ (n : ℕ). take n ps) same) ∙ new

-- ---- behind interfaces

-- how many packages have come with these interfaces
abbrev pub packages_after : ℕ → List Interface → ℕ
packages_after next [] = next
packages_after next (i ∷ is) = packages_after (i.«package».0 + 1) is

pub all-come : (last next : ℕ) (is : List Interface) → has_each_package last next is ≡ true → last ≤ packages_after next is
all-come last next [] h = leb-true last next h
all-come last next (i ∷ is) h = all-come last (i.«package».0 + 1) is (split (nat_le i.«package».0 next) _ h).1

module _ (count : ℕ) where
  grows : (first : ℕ) (is : List Interface) → are_grouped count first is ≡ true → (n : ℕ) → n ≤ first + 1 → n ≤ packages_after (first + 1) is
  grows first [] h n l = l
  grows first (i ∷ is) h n l =
      let s = split (nat_le first i.«package».0 && nat_lt i.«package».0 count) (are_grouped count i.«package».0 is) h in
      let up = leb-true first i.«package».0 (split (nat_le first i.«package».0) _ s.0).0 in
      grows i.«package».0 is s.1 n (omega (arith, up, l))

  pub own-comes : (own first next : ℕ) (is : List Interface) → are_grouped count first is ≡ true → list_any (is_interface_of own) is ≡ true → own + 1 ≤ packages_after next is
  own-comes own first next [] h any = absurd (cc)
  own-comes own first next (i ∷ is) h any = by (is_interface_of own i) refl any (λ q. own-comes own i.«package».0 (i.«package».0 + 1) is s.1 q)
    where
      s : ((nat_le first i.«package».0 && nat_lt i.«package».0 count) ≡ true) × (are_grouped count i.«package».0 is ≡ true)
      s = split (nat_le first i.«package».0 && nat_lt i.«package».0 count) (are_grouped count i.«package».0 is) h

      by : (b : Bool) → is_interface_of own i ≡ b → (b || list_any (is_interface_of own) is) ≡ true
          → (list_any (is_interface_of own) is ≡ true → own + 1 ≤ packages_after (i.«package».0 + 1) is) → own + 1 ≤ packages_after (i.«package».0 + 1) is
      by true e q later = let same = eqb-true i.«package».0 own e in grows i.«package».0 is s.1 (own + 1) (omega (arith, same))
      by false e q later = later q
