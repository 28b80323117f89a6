-- An answer that was broken off is refused for what broke it off.
use Rattle.std.proofs.Common.{inr, ℕ, List}
use Rattle.canonical_abi.specs.Types.{FunctionType}
use Rattle.canonical_abi.specs.Values as Semantic
use Rattle.host_calls.specs.Calling.{of_half}
use Rattle.host_calls.specs.declared.half_error.HalfError.{HalfError}
use Rattle.host_calls.specs.declared.half_error.HalfError.TheVariants as half
use Rattle.host_calls.specs.declared.value.Value.{Value}
use Rattle.memory.specs.declared.block.Block.{Block}
use Rattle.host_values.specs.Results.{CanAnswer, AnswerOfCallFails, AnswerRefuses}

module _ (f : FunctionType) (flats : List Value) (vs : List Semantic.Value) (old : List ℕ) (blocks : List Block) (back : List Value) (new : List ℕ) where
  pub answer-refuses : (e : HalfError) → CanAnswer f flats old blocks back → AnswerOfCallFails f flats vs old blocks e new → AnswerRefuses f flats vs old blocks back (of_half e) new
  answer-refuses (half.OtherBlock index) can failed = (can, failed)
  answer-refuses (half.Fault fault) can failed = inr (can, failed)
