-- Where there is one package, each interface is of it.
use Rattle.std.proofs.Common.{◌≡◌, ℕ, Bool, true, ◌&&◌, ◌==◌, nat_le, nat_lt, List, [], ◌∷◌, length, slice_get, refl, ap, ◌∙◌, arith, Contains}
use Rattle.std.specs.List.{list_all}
use Rattle.std.proofs.lemmas.Bool.{ltb-true, eq-eqb}
use Rattle.std.proofs.lemmas.List.{append_cancel_left, append_cancel_right}
use Rattle.atoms.specs.FullName.{version_suffix, name_text, package_text, full_name_text}
use Rattle.tables.specs.PackageNames.{PackageParts, name_parts}
use Rattle.tables.specs.Tables.{are_grouped}
use Rattle.tables.specs.Names.{full_name_in, full_name}
use Rattle.tables.specs.declared.tables.Interface.{Interface}
use Rattle.tables.specs.declared.tables.Resolve.{Resolve}
use Rattle.tables.proofs.NamesEarlierTypes.{grouped-at}
use Rattle.tables.proofs.ClosedTypesRowByRow.{split, both}

pub single : {A : Type 0} (xs : List A) → length xs ≡ 1 → (x : A) × (xs ≡ x ∷ [])
single [] h = absurd (omega (arith, h))
single (x ∷ []) h = (x, refl)
single (x ∷ y ∷ xs) h = absurd (omega (arith, h))

-- full names of one package differ where names do
pub one-full-name : (p : PackageParts) (a b : List ℕ) → full_name_text (name_parts p a) ≡ full_name_text (name_parts p b) → a ≡ b
one-full-name p a b e =
    let behind_space : 58 ∷ package_text (name_parts p a) ≡ 58 ∷ package_text (name_parts p b) = append_cancel_left p.namespace _ _ e in
    let whole : package_text (name_parts p a) ≡ package_text (name_parts p b) = cc in
    let behind_package : 47 ∷ name_text (name_parts p a) ≡ 47 ∷ name_text (name_parts p b) = append_cancel_left p.name _ _ whole in
    let last : name_text (name_parts p a) ≡ name_text (name_parts p b) = cc in
    append_cancel_right a b (version_suffix p.version) last

abbrev pub is_first : Interface → Bool
is_first i = i.«package».0 == 0

pub all-first : (first : ℕ) (is : List Interface) → are_grouped 1 first is ≡ true → list_all is_first is ≡ true
all-first first [] h = refl
all-first first (i ∷ is) h =
    let inside = split (nat_le first i.«package».0 && nat_lt i.«package».0 1) _ h in
    let here = ltb-true i.«package».0 1 (split (nat_le first i.«package».0) _ inside.0).1 in
    both (is_first i) _ (eq-eqb i.«package».0 0 (omega (arith, here))) (all-first i.«package».0 is inside.1)

module _ (r : Resolve) (p : PackageParts) (one : r.packages ≡ p ∷ []) where
  pub first-place : (i : Interface) → Contains r.interfaces i → i.«package».0 ≡ 0
  first-place i c =
      let inside = grouped-at (length r.packages) 0 r.interfaces c.0 i r.grouped c.1 c.2 in
      omega (arith, inside, ap length one)

  -- an interface's full name is that of its name in the package
  pub own-full-name : (i : Interface) → i.«package».0 ≡ 0 → full_name r i ≡ full_name_text (name_parts p i.name)
  own-full-name i first =
      ap (λ ps. full_name_in (slice_get ps i.«package».0) i.name) one
      ∙ ap (λ k. full_name_in (slice_get (p ∷ []) k) i.name) first
