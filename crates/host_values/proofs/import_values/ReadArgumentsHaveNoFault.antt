-- Arguments whose requests are told have no fault, so reading them fails only for want of memory.
use Rattle.std.proofs.Common.{◌≡◌, ℕ, List, map, Ok, sym, subst}
use Rattle.canonical_abi.specs.Call.{argument_flats}
use Rattle.canonical_abi.specs.Flat.{Denotes}
use Rattle.canonical_abi.specs.Layout.{max_flat_params}
use Rattle.canonical_abi.specs.Types.{FunctionType}
use Rattle.canonical_abi.specs.declared.flat.Flat.{Flat}
use Rattle.canonical_abi.specs.declared.trap.Fault.{Fault}
use Rattle.canonical_abi.specs.declared.trap.Fault.TheVariants.{Trap, NoMemory}
use Rattle.lift_lower.specs.Crossing.{LiftFails}
use Rattle.adapter.specs.declared.asking.request.Request.{Request}
use Rattle.host_calls.specs.Calling.{EnterAsks}
use Rattle.host_calls.specs.Values.{flat_of}
use Rattle.host_calls.specs.declared.error.CallError.TheVariants as error
use Rattle.host_calls.specs.declared.value.Value as core
use Rattle.host_values.proofs.WhatIsToldCanBeRead.{not-both}
use Rattle.host_values.specs.Arguments.{ArgumentsAreNotRead}

module _ (f : FunctionType) (flats : List core.Value) (m : List ℕ) (limit : ℕ) where
  pub only-memory : (old new : List Request) (count : ℕ) (n : List ℕ) (given : List Flat) (fault : Fault) → EnterAsks f flats m limit old (Ok count) new → m ≡ n
      → given ≡ map flat_of flats → LiftFails f.params n (argument_flats f given) fault → ArgumentsAreNotRead f flats m limit (error.Fault fault)
  only-memory old new count n given (Trap t) (read, (vs, h, over, counted, few)) bytes are (step, d) =
      let ts = f.params in
      let same : Denotes max_flat_params ts n (argument_flats f (map flat_of flats)) vs = subst (λ x. Denotes max_flat_params ts x (argument_flats f (map flat_of flats)) vs) bytes h in
      absurd (not-both max_flat_params ts n (argument_flats f given) vs t.kind (subst (λ x. Denotes max_flat_params ts n (argument_flats f x) vs) (sym are) same) d)
  only-memory old new count n given NoMemory asks bytes are d = tt
