-- The places so far hold the flat values so far, and those behind all of them are as they were.
use Rattle.std.proofs.Common.{◌≡◌, map, take, drop, length}
use Rattle.host_calls.specs.Values.{core_value_of}
use Rattle.host_calls.proofs.value.tell.Given as goal

abbrev pub invariant-loop-place : goal.invariant-loop-place
invariant-loop-place l = (take l.place l.out ≡ map core_value_of (take l.place l.flats))
    × (drop (length l.flats) l.out ≡ drop (length l.flats) l.initial.out)
