-- The faults of a call, by how a way of it stopped.
use Rattle.canonical_abi.specs.declared.trap.Fault.{Fault}
use Rattle.canonical_abi.specs.declared.trap.Fault.TheVariants.{Trap}
use Rattle.canonical_abi.specs.declared.trap.Step.{Step}
use Rattle.crossing.specs.declared.stopped.Stopped.{Stopped}
use Rattle.crossing.specs.declared.stopped.Stopped.TheVariants as stopped

-- the trap of a way that stopped: in one step for its source's fault, in the other for a request that failed
abbrev pub fault_in : Step → Step → Stopped → Fault
fault_in lift lower (stopped.Source k) = Trap (record { kind = k; step = lift })
fault_in lift lower (stopped.Target k) = Trap (record { kind = k; step = lower })
