-- The kinds of core values, as C has them.
use Rattle.std.specs.Prelude.{◌≡◌, ◌<◌, ℕ, List, map, take, drop, length, Result, MatchResult}
use Rattle.canonical_abi.specs.declared.flat.CoreKind.{CoreKind}
use Rattle.canonical_abi.specs.declared.flat.CoreKind.TheVariants.{I32, I64}
use Rattle.host_calls.specs.declared.error.CallError.{CallError}
use Rattle.host_calls.specs.declared.error.CallError.TheVariants as error

-- the number of a core value type in C: 0 for i32, 1 for i64
abbrev pub number_of_kind : CoreKind → ℕ
number_of_kind I32 = 0
number_of_kind I64 = 1

-- an array tells these kinds at its front, whose number is the count, and what stands behind them is as it was
pub record TellsKinds (old new : List ℕ) (count : ℕ) (kinds : List CoreKind) : Type 0 where
  pub told : take (length kinds) new ≡ map number_of_kind kinds
  pub counted : count ≡ length kinds
  pub rest : drop (length kinds) new ≡ drop (length kinds) old

-- the kinds are at the front of the array, or it is too short (71 no room) and as it was
abbrev pub KindsDone : List CoreKind → List ℕ → Result ℕ CallError → List ℕ → Type 0
KindsDone kinds old done new = MatchResult done
    (λ count. TellsKinds old new count kinds)
    (λ e. (e ≡ error.NoRoom (length kinds)) × (length old < length kinds) × (new ≡ old))
