use Rattle.std.proofs.Common.{arith}
use Rattle.tables.specs.Closed.{closed_val}
use Rattle.package_diff.specs.Shapes.{row_types}
use Rattle.package_diff.proofs.NumbersStandForTypes.{extends-trans, on-extends, numbers-kept, numbers-more, numbers-below, rows-kept, row-types-kept}
use Rattle.package_diff.proofs.shapes.Shapes.of_fields.Goals as goal

pub of_type-requires : goal.of_type-requires
of_type-requires c = rows-kept c.args.self.now.known.keys c.loop-ty.self.known.keys c.args.rows.now c.loop-ty.invariant.extends c.requires

pub loop-ty-preserved : goal.loop-ty-preserved
loop-ty-preserved c =
    let begun = c.args.self.now.known.keys in
    let before = c.loop-ty.self.known.keys in
    let after = c.of_type.new.self.known.keys in
    let rows = c.args.rows.now in
    let more = c.in_ok-field.ensures.extends in
    let here = rw (row-types-kept begun before rows c.loop-ty.invariant.extends c.requires) at c.in_ok-field.ensures.number in
    record {
      extends = extends-trans begun before after c.loop-ty.invariant.extends more;
      numbers = numbers-more after (closed_val (row_types begun rows)) c.args.types.now c.loop-ty.ty-index _ c.loop-ty.fields.items c.push.new.self.items c.in_ok-field.field (omega arith)
          (numbers-kept before after _ c.loop-ty.fields.items more c.loop-ty.invariant.numbers) here c.in_ok-push.ensures.items;
    }

pub number-requires : goal.number-requires
number-requires c = numbers-below _ c.loop-ty.fields.items c.loop-ty.invariant.numbers.0

pub returns-clause-extends : goal.returns-clause-extends
returns-clause-extends c = on-extends c.args.self.now.known.keys c.loop-ty.self.known.keys c.number.new.self.known.keys c.number.result c.loop-ty.invariant.extends c.number.ensures.extends
