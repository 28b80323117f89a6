use Rattle.std.proofs.Common.{◌==◌, ◌%◌, ◌+◌, ◌<◌, [], ◌++◌, length, subst, rules}
use Rattle.std.specs.Prelude.{if◌then◌else◌}
use Rattle.json.specs.Print.{quoted}
use Rattle.value_text.specs.Puts.{Puts}
use Rattle.value_text.specs.Texts.{comma_at}
use Rattle.value_text.proofs.FlagsInTurn.{flag-next, flag-long, flags-end}
use Rattle.value_text.proofs.puts.put_flags.Goals as goal

pub returns-in_err-end-2 : goal.returns-in_err-end-2
returns-in_err-end-2 c =
    let rest = c.loop-label.rest in
    let long = subst (λ q. c.args.limit < c.loop-label.end + length (if (rest % 2) == 1 then comma_at c.loop-label.count ++ quoted q else [])) c.as_str.ensures.is c.in_err-end-2.ensures in
    let whole = flag-long c.args.labels.now c.args.bits c.args.limit c.args.room.now c.args.at c.loop-label.label-index rest c.loop-label.count c.label-item.result c.loop-label.room c.loop-label.end c.loop-label.room
    c.loop-label-test.true c.label-item.is c.loop-label.invariant long in
    search (rules, whole)

pub loop-label-preserved : goal.loop-label-preserved
loop-label-preserved c =
    let step = c.in_ok-end-2.ensures in
    let rest = c.loop-label.rest in
    let puts = subst (λ q. Puts (if (rest % 2) == 1 then comma_at c.loop-label.count ++ quoted q else []) c.loop-label.room c.loop-label.end c.put_flag.new.room c.in_ok-end-2.end) c.as_str.ensures.is step.0 in
    flag-next c.args.labels.now c.args.bits c.args.limit c.args.room.now c.args.at c.loop-label.label-index rest c.loop-label.count c.label-item.result c.loop-label.room c.loop-label.end c.put_flag.new.room
    c.loop-label-test.true c.label-item.is c.in_ok-end-2.end c.loop-label.invariant puts step.1

pub returns : goal.returns
returns c =
    flags-end c.args.labels.now c.args.bits c.args.limit c.args.room.now c.args.at c.loop-label.label-index c.loop-label.rest c.loop-label.count c.loop-label.room c.loop-label.end c.put-2.new.room c.put-2.result
    c.loop-label-test.false c.loop-label.invariant c.put-2.ensures
