use Rattle.std.proofs.Common.{◌<◌, length, refl, sym, ap, ◌∙◌, true≢false, arith}
use Rattle.std.proofs.lemmas.Option.{slice_get_read, slice_get_within}
use Rattle.serde_json.specs.Data.{string}
use Rattle.values.proofs.ValueOfEachVariant.{value_of-None}
use Rattle.value_json.proofs.CasesTriedOneByOne.{among-next}
use Rattle.value_json.proofs.reading.read_label.Goals as goal

pub returns-then-is_text-clause-ok : goal.returns-then-is_text-clause-ok
returns-then-is_text-clause-ok c = (
  c.loop-i.i,
  c.index-labels-i.result,
  slice_get_read c.args.labels.now (length c.args.labels.now) c.loop-i.i _ refl c.loop-i-test.true c.index-labels-i.is,
  value_of-None c.loop-i.i,
  c.is_text.ensures.0 c.if-is_text.true ∙ ap string c.as_str.ensures.is,
)

pub loop-i-preserved : goal.loop-i-preserved
loop-i-preserved c =
    among-next _ _ _ _ c.loop-i-test.true c.index-labels-i.is
    (λ same. true≢false (sym (c.is_text.ensures.1 (same ∙ ap string (sym c.as_str.ensures.is))) ∙ c.if-is_text.false)) c.loop-i.invariant

pub returns-clause-other : goal.returns-clause-other
returns-clause-other c = λ e v. λ (k, l, at, is_v, is_j).
    let within : k < length c.args.labels.now = slice_get_within c.args.labels.now k l at in
    c.loop-i.invariant k l (omega (arith, within, c.loop-i-test.false)) at is_j
