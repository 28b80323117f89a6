-- How a callee's fault is the caller's, and how a list's values are read once its block is tested.
use Rattle.std.proofs.Common.{◌≡◌, ℕ, ◌+◌, ◌*◌, List, map, Vec, Global, Result, Ok, Err, refl}
use Rattle.std.specs.Int.{w32}
use Rattle.canonical_abi.specs.Types.{ClosedType, list_type}
use Rattle.canonical_abi.specs.Values.{Value, values_of, list_value}
use Rattle.canonical_abi.specs.Layout.{size, align}
use Rattle.canonical_abi.specs.Reading.{◌>>=◌, reading, number_at, block_at, list_at, each_at}
use Rattle.canonical_abi.specs.declared.trap.TrapKind.{TrapKind}
use Rattle.canonical_abi.specs.Laws.{Tells}
use Rattle.canonical_abi.specs.Memory.{Holds, Faulty, HoldsInBlock, FaultyInBlock}
use Rattle.canonical_abi.specs.declared.trap.Fault.{Fault}
use Rattle.canonical_abi.specs.declared.trap.Step.{Step}
use Rattle.canonical_abi.proofs.ReadValues.ReadsExactly.{block-at-tells, reading-tells}
use Rattle.lift_lower.specs.NoValue.{AnswersAs, FailsAs, fault_in_step, AnswerStands}
use Rattle.lift_lower.specs.Loading.{reading_block}
use Rattle.values.specs.Val.{value_of}
use Rattle.values.specs.declared.val.Val.{Val}
use Rattle.lift_lower.specs.declared.no_value.NoValue.{NoValue}
use Rattle.lift_lower.specs.declared.no_value.NoValue.TheVariants as no_value

pub fails-pass : {Y Z : Type 0} (e : NoValue) (read : Result Y TrapKind) (whole : Result Z TrapKind) → FailsAs e read → ((k : TrapKind) → read ≡ Err k → whole ≡ Err k) → FailsAs e whole
fails-pass no_value.NoMemory read whole h f = tt
fails-pass (no_value.Trap k) read whole h f = f k h

abbrev pub listed : Result (List Value) TrapKind → Result Value TrapKind
listed r = r >>= λ vs. Ok (list_value (values_of vs))

-- the block of a list is tested, and its values are read one after another
pub list-opened : (f : ℕ → Result Value TrapKind) (m : List ℕ) (start n al sz al' sz' : ℕ) → al ≡ al' → sz ≡ sz' → block_at m start al (n * sz) ≡ Ok start
    → list_at f m al' sz' start n ≡ listed (each_at f sz start n)
list-opened f m start n al sz al' sz' e1 e2 h = rw (← e1, ← e2, h) refl

-- a list stands in the block that its header tells
pub read-list : (t u : ClosedType) (m : List ℕ) (at start n : ℕ) → t ≡ list_type u → start ≡ number_at m at w32 → n ≡ number_at m (at + 4) w32
    → reading t m at ≡ list_at (reading u m) m (align u) (size u) start n
read-list t u m at start n is e1 e2 = rw (is, e1, e2) refl

-- what stands in a block is read behind the block's test
pub block-tells : (t : ClosedType) (m : List ℕ) (at : ℕ) → Tells (reading_block t m at) (HoldsInBlock t m at) (FaultyInBlock t m at)
block-tells t m at = block-at-tells (λ a. reading t m a) (Holds t m at) (Faulty t m at) m at (align t) (size t) (reading-tells t m at)

-- where no value is read, the fault stands
pub fails-stand : {X Y : Type 0} (step : Step) (e : NoValue) (f : Fault) (read : Result Y TrapKind) (P : X → Type 0) (F : TrapKind → Type 0) → f ≡ fault_in_step step e → FailsAs e read → ((k : TrapKind) → read ≡ Err k → F k) → AnswerStands step P F (Err f)
fails-stand step no_value.NoMemory f read P F is h stands = rw is tt
fails-stand step (no_value.Trap k) f read P F is h stands = rw is (refl, stands k h)

-- the values of a list, as the list
pub as-listed : (r : Result (Vec Val Global) NoValue) (read : Result (List Value) TrapKind) → AnswersAs (λ v. map value_of v.items) r read
    → AnswersAs (λ v. list_value (values_of (map value_of v.items))) r (listed read)
as-listed (Ok v) read h = rw h refl
as-listed (Err no_value.NoMemory) read h = tt
as-listed (Err (no_value.Trap k)) read h = rw h refl
