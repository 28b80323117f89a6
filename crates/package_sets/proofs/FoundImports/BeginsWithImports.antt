-- A closed table that begins with another: what stands before its own part is that table's.
use Rattle.std.proofs.Common.{◌≡◌, ℕ, ◌+◌, ◌-◌, ◌<◌, suc, Bool, true, false, List, [], ◌∷◌, ◌++◌, length, take, slice_get, Some, refl, ap, sym, ◌∙◌, arith, eqb-true, eq-eqb}
use Rattle.std.specs.Prelude.{Contains}
use Rattle.std.proofs.Math.Seq.{take-append_seam}
use Rattle.std.proofs.lemmas.List.{length-append}
use Rattle.package_form.specs.Closed.{own_package}
use Rattle.tables.specs.declared.tables.Interface.{Interface}
use Rattle.tables.specs.declared.tables.Resolve.{Resolve}
use Rattle.package_sets.specs.Attached.{others}
use Rattle.package_sets.specs.Follows.{BeginsWith}
use Rattle.package_sets.specs.Joining.{before_own, import_count, imports}
use Rattle.package_sets.proofs.KeptParts.PropertiesOfKept.{interface-in}
use Rattle.package_form.specs.Reached.{is_interface_of}

before-append : (own : ℕ) (is xs : List Interface) → ((k : ℕ) (i : Interface) → slice_get is k ≡ Some i → is_interface_of own i ≡ false) → ((i : Interface) → Contains xs i → is_interface_of own i ≡ true)
    → before_own own (is ++ xs) ≡ length is
before-append own [] [] f g = refl
before-append own [] (x ∷ xs) f g = rw (g x (0, omega arith, refl)) refl
before-append own (i ∷ is) xs f g = rw (f 0 i refl) (more (before_own own (is ++ xs)) (length is) (before-append own is xs (λ k x e. f (suc k) x e) g))
  where
    more : (n m : ℕ) → n ≡ m → 1 + n ≡ suc m
    more n m e = omega arith

-- interfaces of other packages that stand before the own ones are the imports
module _ (c : Resolve) (front own : List Interface) (e : c.interfaces ≡ front ++ own) (other : (k : ℕ) (i : Interface) → slice_get front k ≡ Some i → is_interface_of (own_package c.packages) i ≡ false)
    (mine : (i : Interface) → Contains own i → is_interface_of (own_package c.packages) i ≡ true) where
  pub count-front : import_count c ≡ length front
  count-front = ap (λ (is : List Interface). before_own (own_package c.packages) is) e ∙ before-append (own_package c.packages) front own other mine

  pub imports-front : imports c ≡ front
  imports-front = ap (λ (is : List Interface). take (import_count c) is) e ∙ (ap (λ k. take k (front ++ own)) count-front ∙ take-append_seam front own)

module _ (r c : Resolve) (b : BeginsWith r c) where
  pub own-is : own_package c.packages ≡ length r.packages
  own-is = ap own_package b.packages_are ∙ less (length r.packages) (length (r.packages ++ b.own ∷ [])) (length-append r.packages (b.own ∷ []))
    where
      less : (n m : ℕ) → m ≡ n + 1 → m - 1 ≡ n
      less n m e = omega arith

  pub begins-packages : others c ≡ r.packages
  begins-packages = ap (λ m. take m c.packages) own-is ∙ (ap (take (length r.packages)) b.packages_are ∙ take-append_seam r.packages (b.own ∷ []))

  no-own : (x : Bool) (i : Interface) → is_interface_of (own_package c.packages) i ≡ x → i.«package».0 < length r.packages → is_interface_of (own_package c.packages) i ≡ false
  no-own false i e l = e
  no-own true i e l = absurd (omega (arith, own-is, eqb-true i.«package».0 (own_package c.packages) e))

  other : (k : ℕ) (i : Interface) → slice_get r.interfaces k ≡ Some i → is_interface_of (own_package c.packages) i ≡ false
  other k i e = no-own (is_interface_of (own_package c.packages) i) i refl (interface-in r k i e)

  mine : (i : Interface) → Contains b.interfaces i → is_interface_of (own_package c.packages) i ≡ true
  mine i d = eq-eqb i.«package».0 (own_package c.packages) (b.of_last i d ∙ sym own-is)

  pub begins-count : import_count c ≡ length r.interfaces
  begins-count = count-front c r.interfaces b.interfaces b.interfaces_are other mine

  pub begins-imports : imports c ≡ r.interfaces
  begins-imports = imports-front c r.interfaces b.interfaces b.interfaces_are other mine

  pub begins-rows : take (length r.definitions) c.definitions ≡ r.definitions
  begins-rows = ap (take (length r.definitions)) b.rows_are ∙ take-append_seam r.definitions b.rows
