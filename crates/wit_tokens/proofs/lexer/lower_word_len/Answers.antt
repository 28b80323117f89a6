use Rattle.std.proofs.Common.{rules, ◌+◌, ◌∙◌, sym, arith}
use Rattle.wit_tokens.proofs.LowerWords.{found_run, found_words}
use Rattle.wit_tokens.proofs.WordsByLanes.{some_first, many_on, first_on, found_in}
use Rattle.wit_tokens.proofs.lexer.lower_word_len.Goals as goal

pub loop-last-init : goal.loop-last-init
loop-last-init c = record { so_far = first_on c.args.text.now c.requires; within = some_first c.args.text.now c.requires }

pub loop-last-preserved : goal.loop-last-preserved
loop-last-preserved c =
    let text = c.args.text.now in
    let i = c.loop-last.last in
    let lanes = c.lanes_on-run.ensures in
    record {
      so_far = sym (many_on text i c.lanes_on-run.result (omega (arith, lanes.few)) lanes.on) ∙ c.loop-last.invariant.so_far;
      within = omega (arith, lanes.few);
    }

pub returns-then-run-lt-LANES-clause-is : goal.returns-then-run-lt-LANES-clause-is
returns-then-run-lt-LANES-clause-is c =
    let text = c.args.text.now in
    let e = found_in text c.loop-last.last c.lanes_on-run.result c.loop-last.invariant.so_far (omega arith) c.lanes_on-run.ensures c.if-run-lt-LANES.true (search rules) (search rules) in
    found_run text (c.loop-last.last + c.lanes_on-run.result + 1) e

pub returns-then-run-lt-LANES-clause-words : goal.returns-then-run-lt-LANES-clause-words
returns-then-run-lt-LANES-clause-words c =
    let text = c.args.text.now in
    let e = found_in text c.loop-last.last c.lanes_on-run.result c.loop-last.invariant.so_far (omega arith) c.lanes_on-run.ensures c.if-run-lt-LANES.true (search rules) (search rules) in
    found_words text (c.loop-last.last + c.lanes_on-run.result + 1) e
