-- One value alone: a record of one field stands as its field does, and lifts as it does.
use Rattle.std.proofs.Common.{◌≡◌, inl, inr, ℕ, ◌+◌, ◌%◌, true, false, List, [], ◌∷◌, map, Result, Ok, Err, refl, ap, ◌∙◌, arith}
use Rattle.std.specs.Int.{next_multiple_of}
use Rattle.std.proofs.Math.Nat.{mod_self}
use Rattle.canonical_abi.specs.Guest.{IsAlignment}
use Rattle.canonical_abi.specs.Types.{ClosedType, prim_type, string_type, list_type, record_type, variant_type, flags_type, field, no_field}
use Rattle.canonical_abi.specs.Values.{Value}
use Rattle.canonical_abi.specs.Layout.{size, align, flags_size, fits_flat, max_flat_results, field_kinds}
use Rattle.canonical_abi.specs.Reading.{◌>>=◌, reading, lifting, denoting, kind_of, number_of, low_bits, block_at}
use Rattle.canonical_abi.specs.declared.flat.CoreKind.TheVariants as kind
use Rattle.canonical_abi.specs.declared.flat.Flat.{Flat}
use Rattle.canonical_abi.specs.declared.trap.TrapKind.{TrapKind}
use Rattle.canonical_abi.proofs.Layouts.AlignmentsAndSizes.{is-alignment}
use Rattle.lift_lower.specs.NoValue.{AnswersAs}
use Rattle.lift_lower.specs.Loading.{reading_block, reading_members}
use Rattle.values.specs.Val.{value_of}
use Rattle.lift_lower.specs.declared.no_value.NoValue.{NoValue}
use Rattle.lift_lower.specs.declared.no_value.NoValue.TheVariants as no_value
use Rattle.values.specs.declared.val.Val.{Val}
use Rattle.lift_lower.proofs.DenotingWholeLists.{denotes-flat, denotes-spilled}
use Rattle.values.proofs.TypesExtents.{align-pos}

-- ---- extents

next-multiple : (e g : ℕ) → IsAlignment g → next_multiple_of e g % g ≡ 0
next-multiple e g (inl h) = rw h (omega arith)
next-multiple e g (inr (inl h)) = rw h (omega arith)
next-multiple e g (inr (inr (inl h))) = rw h (omega arith)
next-multiple e g (inr (inr (inr h))) = rw h (omega arith)

next-same : (n g : ℕ) → IsAlignment g → n % g ≡ 0 → next_multiple_of n g ≡ n
next-same n g (inl h) m = let m' : n % 1 ≡ 0 = rw h at m in rw h (omega (arith, m'))
next-same n g (inr (inl h)) m = let m' : n % 2 ≡ 0 = rw h at m in rw h (omega (arith, m'))
next-same n g (inr (inr (inl h))) m = let m' : n % 4 ≡ 0 = rw h at m in rw h (omega (arith, m'))
next-same n g (inr (inr (inr h))) m = let m' : n % 8 ≡ 0 = rw h at m in rw h (omega (arith, m'))

size-multiple : (t : ClosedType) → size t % align t ≡ 0
size-multiple (prim_type p) = mod_self (size (prim_type p))
size-multiple string_type = refl
size-multiple (list_type t) = refl
size-multiple (record_type fs) = next-multiple _ (align (record_type fs)) (is-alignment (record_type fs))
size-multiple (variant_type cs) = next-multiple _ (align (variant_type cs)) (is-alignment (variant_type cs))
size-multiple (flags_type n) = mod_self (flags_size n)

pub first-place : (t : ClosedType) → next_multiple_of 0 (align t) ≡ 0
first-place t = next-same 0 (align t) (is-alignment t) (by (align t) (is-alignment t))
  where
    by : (g : ℕ) → IsAlignment g → 0 % g ≡ 0
    by g (inl h) = rw h refl
    by g (inr (inl h)) = rw h refl
    by g (inr (inr (inl h))) = rw h refl
    by g (inr (inr (inr h))) = rw h refl

pub alone-align : (t : ClosedType) → align (record_type (field t no_field)) ≡ align t
alone-align t = omega (arith, align-pos t)

pub alone-size : (t : ClosedType) → size (record_type (field t no_field)) ≡ size t
alone-size t =
    ap (next_multiple_of (next_multiple_of 0 (align t) + size t)) (alone-align t)
    ∙ ap (λ e. next_multiple_of (e + size t) (align t)) (first-place t)
    ∙ ap (λ e. next_multiple_of e (align t)) (omega arith)
    ∙ next-same (size t) (align t) (is-alignment t) (size-multiple t)

-- ---- readings

abbrev alone : Value → Result (List Value) TrapKind
alone v = Ok (v ∷ [])

alone-behind : (r : Result ℕ TrapKind) (f : ℕ → Result Value TrapKind) (z : ℕ) → z ≡ 0 → (r >>= λ a. f (a + z) >>= alone) ≡ ((r >>= f) >>= alone)
alone-behind (Ok a) f z e = let same : a + z ≡ a = omega (arith, e) in ap (λ x. f x >>= alone) same
alone-behind (Err k) f z e = refl

alone-members : (t : ClosedType) (m : List ℕ) (at : ℕ) → reading_members (field t no_field) m at ≡ (reading_block t m at >>= alone)
alone-members t m at =
    ap (λ x. block_at m at x (size (record_type (field t no_field))) >>= λ a. reading t m (a + next_multiple_of 0 (align t)) >>= alone) (alone-align t)
    ∙ ap (λ x. block_at m at (align t) x >>= λ a. reading t m (a + next_multiple_of 0 (align t)) >>= alone) (alone-size t)
    ∙ alone-behind (block_at m at (align t) (size t)) (reading t m) (next_multiple_of 0 (align t)) (first-place t)

gives-alone : (r : Result Val NoValue) (read : Result Value TrapKind) → AnswersAs value_of r read → AnswersAs (λ v. value_of v ∷ []) r (read >>= alone)
gives-alone (Ok v) read h = rw h refl
gives-alone (Err no_value.NoMemory) read h = tt
gives-alone (Err (no_value.Trap k)) read h = rw h refl

-- what is read of the value is what its flat values denote
module _ (t : ClosedType) (m : List ℕ) (flats : List Flat) (r : Result Val NoValue) where
  pub gives-flat : fits_flat max_flat_results (field t no_field) ≡ true → map kind_of flats ≡ field_kinds (field t no_field)
      → AnswersAs value_of r (lifting t m (map number_of flats)) → AnswersAs (λ v. value_of v ∷ []) r (denoting max_flat_results (field t no_field) m flats)
  gives-flat fits kinds h = rw (denotes-flat max_flat_results (field t no_field) m flats fits kinds) (gives-alone r _ h)

  pub gives-spilled : fits_flat max_flat_results (field t no_field) ≡ false → map kind_of flats ≡ kind.I32 ∷ []
      → AnswersAs value_of r (reading_block t m (low_bits (map number_of flats) 0 32)) → AnswersAs (λ v. value_of v ∷ []) r (denoting max_flat_results (field t no_field) m flats)
  gives-spilled spilled kinds h =
      rw (denotes-spilled max_flat_results (field t no_field) m flats spilled kinds, alone-members t m (low_bits (map number_of flats) 0 32)) (gives-alone r _ h)
