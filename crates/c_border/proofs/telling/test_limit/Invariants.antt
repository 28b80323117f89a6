use Rattle.std.proofs.Common.{◌≡◌, ◌+◌, take}
use Rattle.c_border.proofs.RequestsInArrays.{size_of_all}
use Rattle.c_border.proofs.telling.test_limit.Given as goal

abbrev pub invariant-loop-request : goal.invariant-loop-request
invariant-loop-request l = size_of_all (take l.request-index l.asked) + l.left ≡ l.limit
