-- CanonicalABI.md, "Storing" and "Flat Lowering" (the calls of `realloc`): the blocks that values ask for, as a list of requests.
use Rattle.std.specs.Prelude.{◌≡◌, ◌<◌, ◌≤◌, List, [], ◌∷◌, ◌++◌, map, Vec, Result, Ok, Err}
use Rattle.std.specs.Global.{Global}
use Rattle.std.specs.List.{AllByRecursion}
use Rattle.canonical_abi.specs.Trace
use Rattle.canonical_abi.specs.declared.trap.Fault.{Fault}
use Rattle.canonical_abi.specs.declared.trap.Fault.TheVariants.{Trap, NoMemory}
use Rattle.canonical_abi.specs.declared.trap.Step.TheVariants.{Place}
use Rattle.canonical_abi.specs.declared.trap.TrapKind.TheVariants.{Bounds}
use Rattle.adapter.specs.Asking.{slot}
use Rattle.adapter.specs.declared.asking.request.Request.{Request}

-- a typed value's text or list has at most so many bytes
abbrev pub IsAllowed : Trace.Request → Type 0
IsAllowed r = r.size ≤ 16777216

-- one of these blocks has more
abbrev pub HasTooLarge : List Trace.Request → Type 0
HasTooLarge rs = (before behind : List Trace.Request) × (r : Trace.Request) × (rs ≡ before ++ r ∷ behind) × (16777216 < r.size)

-- these requests are told behind those of `old`, and none is too large
abbrev pub AreToldBehind : List Request → List Trace.Request → List Request → Type 0
AreToldBehind old rs new = (new ≡ old ++ map slot rs) × AllByRecursion IsAllowed rs

-- why they are not: one is too large, which is K4 in `place`, or the host has no memory for them
abbrev pub AreNotTold : List Trace.Request → Fault → Type 0
AreNotTold rs (Trap t) = (t ≡ record { kind = Bounds; step = Place }) × HasTooLarge rs
AreNotTold rs NoMemory = Unit {0}

-- the requests are told, or why they aren't
abbrev pub Tells : List Trace.Request → List Request → Result (Unit {0}) Fault → List Request → Type 0
Tells rs old (Ok done) new = AreToldBehind old rs new
Tells rs old (Err e) new = AreNotTold rs e

-- just these requests are told, or one of them is too large
abbrev pub AreTold : List Trace.Request → Result (Vec Request Global) Fault → Type 0
AreTold rs (Ok told) = AreToldBehind [] rs told.items
AreTold rs (Err e) = AreNotTold rs e
