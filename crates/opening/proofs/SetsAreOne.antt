-- Packages one behind the other: the set of them is one.
use Rattle.std.proofs.Common.{◌≡◌, ◌∙◌, ◌+◌, ℕ, zero, suc, List, [], ◌∷◌, ◌++◌, take, slice_get, Some, refl, ap, sym, subst, arith}
use Rattle.std.specs.Borrow.{Bor}
use Rattle.package_sets.specs.SetForm.{IsEmpty}
use Rattle.package_sets.proofs.SamePackagesAreOne.{same-tables}
use Rattle.tables.specs.Same.{IsSamePackage}
use Rattle.tables.specs.declared.tables.Resolve.{Resolve}
use Rattle.opening.specs.Sets.{all_bytes, AddsMember, AddsMembers, IsSetOf}

-- ---- lists of packages

adds-more : (xs : List (List ℕ)) (s m closed r : Resolve) (b : List ℕ) → AddsMembers s xs m → AddsMember m b closed r → AddsMembers s (xs ++ b ∷ []) r
adds-more [] s m closed r b e h = (closed, r, subst (λ (x : Resolve). AddsMember x b closed r) (sym e) h, refl)
adds-more (x ∷ xs) s m closed r b (c, next, g, rest) h = (c, next, g, adds-more xs next m closed r b rest h)

parted : (xs ys : List (List ℕ)) (s r : Resolve) → AddsMembers s (xs ++ ys) r → (m : Resolve) × AddsMembers s xs m × AddsMembers m ys r
parted [] ys s r h = (s, refl, h)
parted (x ∷ xs) ys s r (c, next, g, rest) = let p = parted xs ys next r rest in (p.0, (c, next, g, p.1), p.2)

-- with one package more
pub set-more : (xs : List (List ℕ)) (b : List ℕ) (m closed r : Resolve) → IsSetOf xs m → AddsMember m b closed r → IsSetOf (xs ++ b ∷ []) r
set-more xs b m closed r h g = record { none = h.none; empty = h.empty; adds = adds-more xs h.none m closed r b h.adds g }

-- the last package, behind those before it
pub record IsLastOf (xs : List (List ℕ)) (b : List ℕ) (r : Resolve) : Type 0 where
  pub set : Resolve
  pub made : IsSetOf xs set
  pub closed : Resolve
  pub adds : AddsMember set b closed r

pub last-of : (xs : List (List ℕ)) (b : List ℕ) (r : Resolve) → IsSetOf (xs ++ b ∷ []) r → IsLastOf xs b r
last-of xs b r h =
    let p = parted xs (b ∷ []) h.none r h.adds in
    let (closed, next, g, e) = p.2 in
    record { set = p.0; made = record { none = h.none; empty = h.empty; adds = p.1 }; closed = closed; adds = subst (AddsMember p.0 b closed) e g }

-- ---- a set of so many packages, the only one

pub record IsOneSet (inputs : List (List ℕ)) (s : Resolve) : Type 0 where
  pub made : IsSetOf inputs s
  pub one : (r : Resolve) → IsSetOf inputs r → IsSamePackage s r

same-empty : (s r : Resolve) → IsEmpty s → IsEmpty r → IsSamePackage s r
same-empty s r a b = record {
  packages = a.packages ∙ sym b.packages;
  interfaces = a.interfaces ∙ sym b.interfaces;
  worlds = a.worlds ∙ sym b.worlds;
  definitions = a.definitions ∙ sym b.definitions;
}

pub none-made : (s : Resolve) → IsEmpty s → IsOneSet [] s
none-made s e = record {
  made = record { none = s; empty = e; adds = refl };
  one = λ r h. same-empty s r e (subst IsEmpty h.adds h.empty);
}

module _ (xs : List (List ℕ)) (s : Resolve) (b : List ℕ) (is : IsOneSet xs s) where
  -- what the packages add first, is this set
  from : (ys : List (List ℕ)) (r : Resolve) → IsSetOf (xs ++ ys) r → AddsMembers s ys r
  from ys r h =
      let p = parted xs ys h.none r h.adds in
      let same = same-tables s p.0 (is.one p.0 (record { none = h.none; empty = h.empty; adds = p.1 })) in
      subst (λ (x : Resolve). AddsMembers x ys r) (sym same) p.2

  pub one-more : (closed r : Resolve) → AddsMember s b closed r → ((c next : Resolve) → AddsMember s b c next → IsSamePackage r next) → IsOneSet (xs ++ b ∷ []) r
  one-more closed r h only = record {
    made = record { none = is.made.none; empty = is.made.empty; adds = adds-more xs is.made.none s closed r b is.made.adds h };
    one = λ next g. let t = from (b ∷ []) next g in subst (IsSamePackage r) t.3 (only t.0 t.1 t.2);
  }

  -- a set of more packages has one of these behind it
  pub next-added : (rest : List (List ℕ)) (r : Resolve) → IsSetOf (xs ++ b ∷ rest) r → (c : Resolve) × (next : Resolve) × AddsMember s b c next
  next-added rest r h = let t = from (b ∷ rest) r h in (t.0, t.1, t.2)

-- ---- inputs, one after the other

pub input-next : (xs : List (Bor (List ℕ))) (k : ℕ) (x : Bor (List ℕ)) → slice_get xs k ≡ Some x → all_bytes (take (k + 1) xs) ≡ all_bytes (take k xs) ++ x.now ∷ []
input-next xs k x e = ap (λ (n : ℕ). all_bytes (take n xs)) (let one : k + 1 ≡ suc k = omega arith in one) ∙ by xs k e
  where
    by : (xs : List (Bor (List ℕ))) (k : ℕ) → slice_get xs k ≡ Some x → all_bytes (take (suc k) xs) ≡ all_bytes (take k xs) ++ x.now ∷ []
    by [] k e = absurd (cc)
    by (y ∷ ys) zero e = let same : y ≡ x = cc in ap (λ (z : Bor (List ℕ)). z.now ∷ []) same
    by (y ∷ ys) (suc k) e = ap (λ (zs : List (List ℕ)). y.now ∷ zs) (by ys k e)

pub inputs-parted : (xs : List (Bor (List ℕ))) (k : ℕ) (x : Bor (List ℕ)) → slice_get xs k ≡ Some x → (rest : List (List ℕ)) × (all_bytes xs ≡ all_bytes (take k xs) ++ x.now ∷ rest)
inputs-parted [] k x e = absurd (cc)
inputs-parted (y ∷ ys) zero x e = let same : y ≡ x = cc in (all_bytes ys, ap (λ (z : Bor (List ℕ)). z.now ∷ all_bytes ys) same)
inputs-parted (y ∷ ys) (suc k) x e = let p = inputs-parted ys k x e in (p.0, ap (λ (zs : List (List ℕ)). y.now ∷ zs) p.1)
