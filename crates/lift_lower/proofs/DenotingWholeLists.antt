-- What whole lists of flat values denote, by how they are passed.
use Rattle.std.proofs.Common.{◌≡◌, ℕ, Bool, true, false, List, [], ◌∷◌, map, Err, refl, subst}
use Rattle.canonical_abi.specs.Types.{Fields}
use Rattle.canonical_abi.specs.Layout.{field_kinds, fits_flat, max_flat_params}
use Rattle.canonical_abi.specs.Reading.{denoting, kind_of, number_of, same_kinds, lifting_fields, low_bits}
use Rattle.canonical_abi.specs.declared.flat.CoreKind.{CoreKind}
use Rattle.canonical_abi.specs.declared.flat.CoreKind.TheVariants as kind
use Rattle.canonical_abi.specs.declared.flat.Flat.{Flat}
use Rattle.canonical_abi.proofs.ReadValues.ReadsExactly.{denoting-tells, same_kinds-refl, same_kinds-true}
use Rattle.canonical_abi.specs.declared.trap.Fault.{Fault}
use Rattle.canonical_abi.specs.declared.trap.Step.TheVariants.{Take}
use Rattle.canonical_abi.specs.declared.trap.TrapKind.TheVariants as trap
use Rattle.lift_lower.specs.Crossing.{LiftFails}
use Rattle.lift_lower.specs.NoValue.{FailsAs, fault_in_step}
use Rattle.lift_lower.specs.declared.no_value.NoValue.{NoValue}
use Rattle.lift_lower.specs.declared.no_value.NoValue.TheVariants as no_value
use Rattle.lift_lower.specs.Loading.{reading_members}

-- ---- kinds

same-false : (js ks : List CoreKind) → (js ≡ ks → ⊥) → same_kinds js ks ≡ false
same-false js ks other = by (same_kinds js ks) refl
  where
    by : (b : Bool) → same_kinds js ks ≡ b → same_kinds js ks ≡ false
    by true e = absurd (other (same_kinds-true js ks e))
    by false e = e

same-by : (js ks : List CoreKind) → js ≡ ks → same_kinds js ks ≡ true
same-by js ks e =
    let P : List CoreKind → Type 0 = λ xs. same_kinds js xs ≡ true in
    subst P e (same_kinds-refl js)

module _ (limit : ℕ) (ts : Fields) (m : List ℕ) (flats : List Flat) where
  pub denotes-flat : fits_flat limit ts ≡ true → map kind_of flats ≡ field_kinds ts → denoting limit ts m flats ≡ lifting_fields ts m (map number_of flats)
  denotes-flat fits kinds = rw (fits, same-by _ _ kinds) refl

  pub denotes-spilled : fits_flat limit ts ≡ false → map kind_of flats ≡ kind.I32 ∷ [] → denoting limit ts m flats ≡ reading_members ts m (low_bits (map number_of flats) 0 32)
  denotes-spilled fits kinds = rw (fits, same-by _ _ kinds) refl

  pub denotes-flat-not : fits_flat limit ts ≡ true → (map kind_of flats ≡ field_kinds ts → ⊥) → denoting limit ts m flats ≡ Err trap.CoreSignature
  denotes-flat-not fits other = rw (fits, same-false _ _ other) refl

  pub denotes-spilled-not : fits_flat limit ts ≡ false → (map kind_of flats ≡ kind.I32 ∷ [] → ⊥) → denoting limit ts m flats ≡ Err trap.CoreSignature
  denotes-spilled-not fits other = rw (fits, same-false _ _ other) refl

-- what flat values do not denote is a fault of lifting
pub lift-fails : (ts : Fields) (m : List ℕ) (flats : List Flat) (e : NoValue) (f : Fault) → f ≡ fault_in_step Take e → FailsAs e (denoting max_flat_params ts m flats) → LiftFails ts m flats f
lift-fails ts m flats no_value.NoMemory f is h = rw is tt
lift-fails ts m flats (no_value.Trap k) f is h = rw is (refl, (denoting-tells max_flat_params ts m flats).err k h)
