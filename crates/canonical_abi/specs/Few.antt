-- How many nodes of values a call visits, against the bytes that the allocators grant for them. (CanonicalABI.md has no such section: these
-- follow from "Storing" and "Flat Lowering", where each node has a byte of a block, or a core value, of its own or of a node in it.)
use Rattle.std.specs.Prelude.{ℕ, ◌+◌, ◌*◌, ◌≤◌, List, [], ◌∷◌, Result}
use Rattle.canonical_abi.specs.Types.{FunctionType, fields_depth, result_fields}
use Rattle.canonical_abi.specs.Values.{Value}
use Rattle.canonical_abi.specs.Guest.{Allocation}
use Rattle.canonical_abi.specs.Trace.{Event, node, grant, write, nodes_of}
use Rattle.canonical_abi.specs.Call.{Parties, CallState, Ways, exact, Calls, Enters, Returns, ArgumentsFaulty, ArgumentsFail, ResultFaulty, ResultFails}
use Rattle.canonical_abi.specs.Halves.{entering, returning}
use Rattle.canonical_abi.specs.Headline.{IsStandardFunction, area_size}
use Rattle.canonical_abi.specs.declared.flat.Flat.{Flat}
use Rattle.canonical_abi.specs.declared.trap.Fault.{Fault}
use Rattle.canonical_abi.specs.declared.trap.TrapKind.{TrapKind}

-- how many bytes the granted blocks have together
abbrev pub granted_size : List Event → ℕ
granted_size [] = 0
granted_size (node ∷ es) = granted_size es
granted_size (grant g ∷ es) = g.size + granted_size es
granted_size (write at part ∷ es) = granted_size es

-- at most so many nodes for each byte that was granted on a way, and for sixteen more; the return area counts as granted
pub record AreFewNodes (f : FunctionType) (ways : Ways) : Type 0 where
  pub there : nodes_of ways.there ≤ 64 * (granted_size ways.there + 16)
  pub back : nodes_of ways.back ≤ 64 * (granted_size ways.back + area_size f + 16)

-- no type of the function nests more than 64 deep
pub record IsShallowFunction (f : FunctionType) : Type 0 where
  pub params : fields_depth f.params ≤ 64
  pub result : fields_depth (result_fields f.result) ≤ 64

-- each call of a function nested at most 64 deep visits few nodes, whatever it answers
abbrev pub VisitsFewNodes : Parties → Type 0
VisitsFewNodes parties =
    (f : FunctionType) (flats : List Flat) (old : CallState) (result : Result (List Flat) Fault) (ways : Ways) (new : CallState)
    → IsStandardFunction f → IsShallowFunction f → Calls parties exact f flats old result ways new → AreFewNodes f ways

-- at most so many nodes for each byte that was granted by these events, for so many more bytes, and for sixteen
abbrev pub AreFew : ℕ → List Event → Type 0
AreFew more es = nodes_of es ≤ 64 * (granted_size es + more + 16)

-- the first half over this allocator visits few nodes: where the arguments are put into the callee, and before each trap
pub record EntryVisitsFew (allocates : Allocation) (f : FunctionType) (flats : List Flat) (old new : CallState) : Type 0 where
  pub entered : (values : List Value) (handed : List Flat) (there : List Event) → Enters (entering allocates) f flats old values handed there new → AreFew 0 there
  pub faulty : (kind : TrapKind) (done : List Event) → ArgumentsFaulty (entering allocates) exact f flats old kind done new → AreFew 0 done
  pub failed : (kind : TrapKind) (done : List Event) → ArgumentsFail (entering allocates) exact f flats old kind done new → AreFew 0 done

-- so does the second, where the return area counts as granted
pub record ReturnVisitsFew (allocates : Allocation) (f : FunctionType) (flats : List Flat) (old new : CallState) : Type 0 where
  pub returned : (answer : List Flat) (values : List Value) (given : List Flat) (back : List Event) → Returns (returning allocates) f flats old answer values given back new → AreFew (area_size f) back
  pub faulty : (answer : List Flat) (kind : TrapKind) (done : List Event) → ResultFaulty (returning allocates) exact f flats old answer kind done new → AreFew (area_size f) done
  pub failed : (answer : List Flat) (kind : TrapKind) (done : List Event) → ResultFails (returning allocates) exact f flats old answer kind done new → AreFew (area_size f) done

-- each half over this allocator of a function nested at most 64 deep visits few nodes, whatever it answers
abbrev pub HalvesVisitFew : Allocation → Type 0
HalvesVisitFew allocates =
    (f : FunctionType) (flats : List Flat) (old new : CallState) → IsStandardFunction f → IsShallowFunction f
    → EntryVisitsFew allocates f flats old new × ReturnVisitsFew allocates f flats old new
