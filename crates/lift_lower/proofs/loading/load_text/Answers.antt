use Rattle.canonical_abi.specs.Values.{string_value}
use Rattle.values.proofs.ValueOfEachVariant.{value_of-String}
use Rattle.lift_lower.proofs.TextsAndBlocksStand.{text-stands, text-fault}
use Rattle.lift_lower.proofs.loading.load_text.Goals as goal

pub returns-in_ok-from_str-in-Ok : goal.returns-in_ok-from_str-in-Ok
returns-in_ok-from_str-in-Ok c =
    rw (value_of-String, c.in_ok-from_str-in-Ok.ensures.ok) (text-stands c.args.memory.now c.args.start c.args.size (string_value c.in-Ok.text.now) c.in-Ok.ensures.text)

pub returns-in-Err : goal.returns-in-Err
returns-in-Err c = text-fault c.args.memory.now c.args.start c.args.size c.in-Err.kind c.in-Err.ensures.fault
