use Rattle.package_diff.proofs.NumbersStandForTypes.{extends-trans, rows-more}
use Rattle.package_diff.proofs.shapes.Shapes.rows_of.Goals as goal

pub loop-definition-preserved : goal.loop-definition-preserved
loop-definition-preserved c =
    let before = c.loop-definition.self.known.keys in
    let after = c.of_definition.new.self.known.keys in
    let more = c.in_ok-row.ensures.extends in
    let at = rw c.as_slice-definition-items.ensures at c.definition-item.is in
    let number = rw c.as_slice.ensures.value at c.in_ok-row.ensures.number in
    let answer = rw c.as_slice.ensures.value at c.in_ok-row.ensures.answer in
    let within = rw c.as_slice-definition-items.ensures at c.loop-definition-test.true in
    record {
      extends = extends-trans c.args.self.now.known.keys before after c.loop-definition.invariant.extends more;
      rows = rows-more before after c.args.table.now c.loop-definition.definition-index c.definition-item.result c.loop-definition.rows.items c.push.new.self.items c.in_ok-row.row
          more within at c.loop-definition.invariant.rows number answer c.in_ok-push.ensures.items;
    }
