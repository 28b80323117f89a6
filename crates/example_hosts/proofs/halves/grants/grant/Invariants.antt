-- The blocks so far are for the requests so far, and the allocator has changed its own four bytes alone.
use Rattle.std.proofs.Common.{◌≡◌, map, take}
use Rattle.example_hosts.specs.Promise.{request_of, HasGranted}
use Rattle.example_hosts.proofs.halves.grants.grant.Given as goal

abbrev pub invariant-loop-request : goal.invariant-loop-request
invariant-loop-request l = (map request_of l.blocks.items ≡ take l.request-index l.requests) × HasGranted l.initial.memory l.memory
