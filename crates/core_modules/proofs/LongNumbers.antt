-- Numbers that are passed byte by byte.
use Rattle.std.proofs.Common.{◌≡◌, ℕ, suc, ◌+◌, ◌-◌, ◌<◌, ◌≤◌, List, Result, Ok, Err, refl, sym, ◌∙◌, arith}
use Rattle.std.proofs.lemmas.Bool.{lt-ltb, le-ltb}
use Rattle.component_structure.specs.declared.error.DecodeError.{DecodeError}
use Rattle.component_structure.specs.declared.error.DecodeError.TheVariants as errors
use Rattle.component_structure.specs.declared.error.Fault.TheVariants.{Overlong}
use Rattle.component_structure.specs.Bytes.{Refuses, byte}
use Rattle.core_modules.specs.Sections.{groups}

-- a byte of 128 and above is passed
pub goes_on : (count i place end b : ℕ) (bytes rest : List ℕ) (total : Result (ℕ × List ℕ) DecodeError) → i < count → 128 ≤ b → (byte end).read bytes ≡ Ok (b, rest) → (groups (count - i) place end).read bytes ≡ total → (groups (count - (i + 1)) place end).read rest ≡ total
unfolding groups
goes_on count i place end b bytes rest total lt high h so_far =
    let k : count - i ≡ suc (count - (i + 1)) = omega arith in
    let one : (groups (count - i) place end).read bytes ≡ (groups (count - (i + 1)) place end).read rest = rw (k, h, le-ltb b 128 high) refl in
    sym one ∙ so_far

-- a byte below 128 is the last
pub ends : (count i place end b : ℕ) (bytes rest : List ℕ) (total : Result (ℕ × List ℕ) DecodeError) → i < count → b < 128 → (byte end).read bytes ≡ Ok (b, rest) → (groups (count - i) place end).read bytes ≡ total → total ≡ Ok (0, rest)
unfolding groups
ends count i place end b bytes rest total lt low h so_far =
    let k : count - i ≡ suc (count - (i + 1)) = omega arith in
    let one : (groups (count - i) place end).read bytes ≡ Ok (0, rest) = rw (k, h, lt-ltb b 128 low) refl in
    sym so_far ∙ one

-- the bytes end
pub stops : (e : DecodeError) (count i place end : ℕ) (bytes : List ℕ) (total : Result (ℕ × List ℕ) DecodeError) → i < count → Refuses e ((byte end).read bytes) → (groups (count - i) place end).read bytes ≡ total → Refuses e total
unfolding groups
stops errors.NoMemory count i place end bytes total lt h so_far = tt
stops (errors.At fault at) count i place end bytes total lt h so_far =
    let k : count - i ≡ suc (count - (i + 1)) = omega arith in
    let one : (groups (count - i) place end).read bytes ≡ Err (errors.At fault at) = rw (k, h) refl in
    sym so_far ∙ one

-- no byte is left that may be one of the number
pub is_over : (count i place end : ℕ) (bytes : List ℕ) (total : Result (ℕ × List ℕ) DecodeError) → count ≤ i → (groups (count - i) place end).read bytes ≡ total → total ≡ Err (errors.At Overlong place)
unfolding groups
is_over count i place end bytes total le so_far =
    let k : count - i ≡ 0 = omega arith in
    let one : (groups (count - i) place end).read bytes ≡ Err (errors.At Overlong place) = rw k refl in
    sym so_far ∙ one
