-- What the program's own body answers.
use Rattle.std.specs.Prelude.{◌≡◌, ◌⊎◌, ℕ, List, Option, Some, None, map, option_to_list}
use Rattle.canonical_abi.specs.Types.{FunctionType, result_fields}
use Rattle.canonical_abi.specs.Values.{Value}
use Rattle.canonical_abi.specs.Layout.{max_flat_params}
use Rattle.canonical_abi.specs.Flat.{Denotes, DenotesFault}
use Rattle.canonical_abi.specs.Guest.{Memory}
use Rattle.canonical_abi.specs.declared.flat.Flat.{Flat}
use Rattle.canonical_abi.specs.declared.trap.TrapKind.{TrapKind}
use Rattle.memory.specs.Space.{SpaceAllocates}
use Rattle.lift_lower.specs.Crossing.{AreAnswered, AnswerFails}
use Rattle.values.specs.Val.{value_of}
use Rattle.tables.specs.Closed.{function_at, function_type, IsScalarFunction}
use Rattle.tables.specs.Names.{IsNamed, IsMissing}
use Rattle.tables.specs.Same.{IsSamePackage}
use Rattle.tables.specs.declared.tables.FunctionId.{FunctionId}
use Rattle.tables.specs.declared.tables.Resolve.{Resolve}
use Rattle.package_values.specs.Json.{IsArrayTextOf, RefusesArray}
use Rattle.adapter.specs.Signature.{function_signature}
use Rattle.witcall.specs.declared.refused.Refused.{Refused}
use Rattle.witcall.specs.declared.refused.Refused.TheVariants as refused
use Rattle.witcall.specs.declared.reply.Reply.{Reply}

-- the values are lowered into its memory as a result, and these flat values carry them
abbrev pub RepliesWith : FunctionType → List Value → Memory → List Flat → Memory → Type 0
RepliesWith f vs old flats new = AreAnswered SpaceAllocates (result_fields f.result) vs old flats new

-- the body's memory refused a block for the values that it answers
abbrev pub HasNoRoom : FunctionType → List Value → Memory → Memory → Type 0
HasNoRoom f vs old new = (k : TrapKind) × AnswerFails SpaceAllocates (result_fields f.result) vs old k new

-- The flat values that it was given denote values of the parameters' types in its memory, and it answers these values. It stops where they
-- denote none, and then nothing was done, or where its memory has no room for the answer.
abbrev pub Replies : FunctionType → List Value → Memory → List Flat → Option (List Flat) → Memory → Type 0
Replies f vs old given (Some flats) new =
    (arguments : List Value) × Denotes max_flat_params f.params old.bytes given arguments × RepliesWith f vs old flats new
Replies f vs old given None new =
    ((k : TrapKind) × DenotesFault max_flat_params f.params old.bytes given k × (new ≡ old))
    ⊎ ((arguments : List Value) × Denotes max_flat_params f.params old.bytes given arguments × HasNoRoom f vs old new)

-- the flat values denote no arguments of the function; or the host has no memory for them, of which a scalar function's take none
abbrev pub DenotesNoArguments : Resolve → FunctionId → List ℕ → List Flat → Type 0
DenotesNoArguments r f m given = ((k : TrapKind) × DenotesFault max_flat_params (function_type r f).params m given k) ⊎ (IsScalarFunction r f → ⊥)

-- the body stops before it did anything: the host has no memory for the arguments; a scalar function's need none
abbrev pub WantsMemory : Resolve → FunctionId → Memory → Option (List Flat) → Memory → Type 0
WantsMemory r f old answer new = (IsScalarFunction r f → ⊥) × (answer ≡ None) × (new ≡ old)

-- the reply is a body of the function of these names, and its value is what the text says
pub record IsReplyOf (r : Resolve) (iface func text : List ℕ) (reply : Reply) : Type 0 where
  pub own : IsSamePackage reply.«package».resolve r
  pub named : IsNamed r iface func reply.func
  pub are_read : IsArrayTextOf r (option_to_list (function_signature (function_at r reply.func)).result) text (map value_of (option_to_list reply.value))

-- why no body is made for these names and this text
abbrev pub ReplyRefuses : Resolve → (iface func text : List ℕ) → Refused → Type 0
ReplyRefuses r iface func text refused.NoFunction = IsMissing r iface func
ReplyRefuses r iface func text (refused.Json e) =
    (f : FunctionId) × IsNamed r iface func f × RefusesArray r (option_to_list (function_signature (function_at r f)).result) text e
ReplyRefuses r iface func text refused.NoMemory = Unit {0}
ReplyRefuses r iface func text _ = ⊥
