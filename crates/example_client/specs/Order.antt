-- An order: what its body finds, and what its caller keeps.
use Rattle.std.specs.Prelude.{◌≡◌, ℕ, ◌+◌, ◌≤◌, true, List, [], ◌∷◌, Some, length, map, slice_range, Option, option_to_list}
use Rattle.canonical_abi.specs.Types.{int32, unsigned, prim_type, string_type, no_field, field, FunctionType, result_fields}
use Rattle.canonical_abi.specs.Values.{Value}
use Rattle.canonical_abi.specs.Layout.{max_flat_results}
use Rattle.canonical_abi.specs.Flat.{Denotes}
use Rattle.canonical_abi.specs.Reading.{kind_of, low_bits, number_of}
use Rattle.canonical_abi.specs.Guest.{Memory, IsWithin}
use Rattle.canonical_abi.specs.Call.{Run, PostRun}
use Rattle.canonical_abi.specs.declared.flat.Flat.{Flat}
use Rattle.canonical_abi.specs.declared.flat.CoreKind.TheVariants.{I32}

-- the function's parameters are a text, the item, and a u32, the count
abbrev pub TakesOrder : FunctionType → Type 0
TakesOrder f = f.params ≡ field string_type (field (prim_type (unsigned int32)) no_field)

-- core value i as an i32
abbrev pub word : List Flat → ℕ → ℕ
word flats i = low_bits (map number_of flats) i 32

-- The body made one run, from its state and to an answer, on three core values. In the memory that it found, just the item's bytes stand at the
-- address in the first, as many as the second says; the third is the count. What it answered denotes the result in the memory that it left. After it
-- came post-return alone, which left body and memory as they are.
pub record FindsOrder (item : List ℕ) (count : ℕ) (f : FunctionType) (result : Option Value) (runs : Run) (posts : PostRun) (state kept : List ℕ) (left : Memory) : Type 0 where
  pub memory : Memory
  pub flats : List Flat
  pub kinds : map kind_of flats ≡ I32 ∷ I32 ∷ I32 ∷ []
  pub inside : word flats 0 + word flats 1 ≤ length memory.bytes
  pub item_stands : slice_range memory.bytes (word flats 0) (word flats 0 + word flats 1) ≡ item
  pub count_is : word flats 2 ≡ count
  pub state_after : List ℕ
  pub memory_after : Memory
  pub answer : List Flat
  pub run : runs state memory flats state_after memory_after (Some answer)
  pub lifted : Denotes max_flat_results (result_fields f.result) memory_after.bytes answer (option_to_list result)
  pub post : posts state_after memory_after answer kept left (Some tt)

-- each range that was live before is live, with the same bytes
abbrev pub KeepsLiveRanges : Memory → Memory → Type 0
KeepsLiveRanges old new =
    (at size : ℕ) → at + size ≤ length old.bytes → ((a : ℕ) → IsWithin a at size → old.live a ≡ true)
    → ((a : ℕ) → IsWithin a at size → new.live a ≡ true) × (slice_range new.bytes at (at + size) ≡ slice_range old.bytes at (at + size))
