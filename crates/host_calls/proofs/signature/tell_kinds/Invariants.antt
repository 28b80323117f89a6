-- The places so far tell the kinds so far, and those behind all of them are as they were.
use Rattle.std.proofs.Common.{◌≡◌, map, take, drop, length}
use Rattle.host_calls.specs.Signatures.{number_of_kind}
use Rattle.host_calls.proofs.signature.tell_kinds.Given as goal

abbrev pub invariant-loop-place : goal.invariant-loop-place
invariant-loop-place l = (take l.place l.out ≡ map number_of_kind (take l.place l.kinds))
    × (drop (length l.kinds) l.out ≡ drop (length l.kinds) l.initial.out)
