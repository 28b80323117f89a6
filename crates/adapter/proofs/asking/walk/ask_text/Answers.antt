use Rattle.std.proofs.Common.{arith}
use Rattle.canonical_abi.specs.Values.{string_value}
use Rattle.lift_lower.proofs.TextsAndBlocksStand.{text-stands}
use Rattle.adapter.proofs.asking.RequestsOfParts.{text-length, text-stops}
use Rattle.adapter.proofs.asking.walk.ask_text.Goals as goal

pub returns-clause-asks : goal.returns-clause-asks
returns-clause-asks c =
    (string_value c.in-Ok.text.now, text-stands c.args.source.now c.args.start c.args.len (string_value c.in-Ok.text.now) c.in-Ok.ensures.text, c.tell.ensures.told)

pub returns-then-left-len-clause-asks : goal.returns-then-left-len-clause-asks
returns-then-left-len-clause-asks c = text-stops c.args.source.now c.args.start c.args.len c.args.left.now (omega arith)

pub tell-requires-clause-within : goal.tell-requires-clause-within
tell-requires-clause-within c = omega (arith, text-length c.args.source.now c.args.start c.args.len (string_value c.in-Ok.text.now) c.in-Ok.ensures.text)
