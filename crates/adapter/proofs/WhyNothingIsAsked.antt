-- Why nothing is asked of a half.
use Rattle.std.proofs.Common.{ℕ, List, refl}
use Rattle.canonical_abi.specs.Trace
use Rattle.canonical_abi.specs.Values.{Value}
use Rattle.canonical_abi.specs.declared.trap.Step.{Step}
use Rattle.canonical_abi.specs.declared.trap.TrapKind.{TrapKind}
use Rattle.adapter.specs.Ahead.{MeetsLimit, HalfMeetsLimit}
use Rattle.adapter.specs.Asking.{IsUntold}
use Rattle.adapter.specs.declared.asking.request.Untold.{Untold}
use Rattle.adapter.specs.declared.asking.request.Untold.TheVariants as untold
use Rattle.adapter.specs.Asked.{IsUnasked, unasked_in}

pub unasked-told : (s : Step) (P : List Value → Type 0) (D E : TrapKind → Type 0) (f : List Value → List Trace.Request) (l : ℕ) → ((k : TrapKind) → D k → E k)
    → (e : Untold) → IsUntold P D f l e → IsUnasked s P E f l (unasked_in s e)
unasked-told s P D E f l more (untold.Fault k) h = (refl, more k h)
unasked-told s P D E f l more untold.AboveLimit h = h

pub half-limit : (s : Step) (rs : List Trace.Request) (l : ℕ) (e : Untold) → MeetsLimit rs l e → HalfMeetsLimit rs l (unasked_in s e)
half-limit s rs l (untold.Fault k) h = h
half-limit s rs l untold.AboveLimit h = h
