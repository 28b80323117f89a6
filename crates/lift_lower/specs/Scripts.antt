-- How much of a script, the events by which values are put into a memory, was done.
use Rattle.std.specs.Prelude.{◌≡◌, ℕ, ◌≤◌, List, [], ◌∷◌, ◌++◌, length}
use Rattle.canonical_abi.specs.Guest.{Memory, Allocation}
use Rattle.canonical_abi.specs.Storing.{IsBlock}
use Rattle.canonical_abi.specs.Trace.{Grant, Event, grant, write, AreGrantsWithin, TraceLeads, TraceEnds}
use Rattle.canonical_abi.specs.declared.trap.TrapKind.{TrapKind}

-- the whole script was done, all its blocks within the limit
pub record IsDone (limit : ℕ) (allocates : Allocation) (S : List Event → Type 0) (old new : Memory) : Type 0 where
  pub events : List Event
  pub scripted : S events
  pub within : AreGrantsWithin limit events
  pub leads : TraceLeads allocates old events new
  pub no_shorter : length old.bytes ≤ length new.bytes

-- a beginning of the script was done, up to a request that failed
pub record HasEnded (limit : ℕ) (allocates : Allocation) (S : List Event → Type 0) (old : Memory) (k : TrapKind) (new : Memory) : Type 0 where
  pub events : List Event
  pub scripted : S events
  pub ends : TraceEnds limit allocates old events k new

-- lemma: a beginning of the script S was done, which those of T complete
pub record IsBegun (limit : ℕ) (allocates : Allocation) (S T : List Event → Type 0) (old now : Memory) : Type 0 where
  pub events : List Event
  pub completed : (rest : List Event) → T rest → S (events ++ rest)
  pub within : AreGrantsWithin limit events
  pub leads : TraceLeads allocates old events now
  pub no_shorter : length old.bytes ≤ length now.bytes

-- ---- what is asked for and written at one go

-- a block is asked for
abbrev pub AsksBlock : ℕ → ℕ → List Event → Type 0
AsksBlock align size es = (g : Grant) × IsBlock align size g × (es ≡ grant g ∷ [])

-- a block is granted at this address
abbrev pub GrantsBlock : ℕ → ℕ → ℕ → List Event → Type 0
GrantsBlock align size at es = (g : Grant) × IsBlock align size g × (g.at ≡ at) × (es ≡ grant g ∷ [])

-- a text is put into a block of its own
abbrev pub PutsText : List ℕ → List Event → Type 0
PutsText text es = (g : Grant) × IsBlock 1 (length text) g × (es ≡ grant g ∷ write g.at text ∷ [])

-- a text is put into a block at this address
abbrev pub PutsTextAt : List ℕ → ℕ → List Event → Type 0
PutsTextAt text at es = (g : Grant) × IsBlock 1 (length text) g × (g.at ≡ at) × (es ≡ grant g ∷ write g.at text ∷ [])
