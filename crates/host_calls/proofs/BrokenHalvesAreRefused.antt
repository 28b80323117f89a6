-- Why a half was broken off is why it is refused.
use Rattle.std.proofs.Common.{ℕ, List, map, inr}
use Rattle.canonical_abi.specs.Types.{FunctionType}
use Rattle.memory.specs.declared.block.Block.{Block}
use Rattle.host_calls.specs.Halves.{EntryOfLentFails, ReturnOfLentFails}
use Rattle.host_calls.specs.Values.{flat_of}
use Rattle.host_calls.specs.declared.half_error.HalfError.{HalfError}
use Rattle.host_calls.specs.declared.half_error.HalfError.TheVariants as half
use Rattle.host_calls.specs.declared.value.Value.{Value}
use Rattle.host_calls.specs.Calling.{of_half, ArgumentsCanEnter, AnswerCanReturn, EnterRefuses, LeaveRefuses}

module _ (f : FunctionType) (flats : List Value) (m old : List ℕ) (blocks : List Block) (out : List Value) (new : List ℕ) where
  pub enter-refuses : (e : HalfError) → ArgumentsCanEnter f flats m old blocks out
      → ((name : ℕ) × EntryOfLentFails name f (map flat_of flats) m old blocks e new) → EnterRefuses f flats m old blocks out (of_half e) new
  enter-refuses (half.OtherBlock index) can failed = (can, failed)
  enter-refuses (half.Fault fault) can failed = inr (can, failed)

  pub leave-refuses : (answer : List Value) (e : HalfError) → AnswerCanReturn f flats m answer old blocks out
      → ((name : ℕ) × ReturnOfLentFails name f (map flat_of flats) m (map flat_of answer) old blocks e new) → LeaveRefuses f flats m answer old blocks out (of_half e) new
  leave-refuses answer (half.OtherBlock index) can failed = (can, failed)
  leave-refuses answer (half.Fault fault) can failed = inr (inr (can, failed))
