-- The places so far tell the core values so far, and those behind all of them are as they were.
use Rattle.std.proofs.Common.{◌≡◌, map, take, drop, length}
use Rattle.host_calls.specs.Values.{flat_of, core_value_of}
use Rattle.host_calls.proofs.value.tell_values.Given as goal

abbrev pub invariant-loop-place : goal.invariant-loop-place
invariant-loop-place l = (take l.place l.out ≡ map core_value_of (map flat_of (take l.place l.values)))
    × (drop (length l.values) l.out ≡ drop (length l.values) l.initial.out)
