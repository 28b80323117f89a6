use Rattle.std.proofs.Common.{length, ap, ◌∙◌}
use Rattle.std.proofs.lemmas.List.{length-map}
use Rattle.adapter.specs.Asking.{slot}
use Rattle.c_border.proofs.RequestsInArrays.{front-is}
use Rattle.c_border.proofs.telling.tell_requests.Goals as goal

pub returns-clause-told : goal.returns-clause-told
returns-clause-told c = λ rs is. (
  front-is c.args.asked.now c.args.requests.now c.copy_from_slice.new.self c.min-count.result rs is c.min-count.ensures c.copy_from_slice.ensures.after,
  ap length is ∙ length-map rs slot,
  c.in_ok-test_limit.ensures.ok rs is,
)
