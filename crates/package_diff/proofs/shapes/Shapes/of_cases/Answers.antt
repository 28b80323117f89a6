use Rattle.std.proofs.Common.{arith}
use Rattle.std.specs.Option.{option_map}
use Rattle.tables.specs.Closed.{closed_val}
use Rattle.package_diff.specs.Shapes.{row_types}
use Rattle.package_diff.proofs.NumbersStandForTypes.{extends-trans, on-extends, parts-kept, parts-more, rows-kept, row-types-kept}
use Rattle.package_diff.proofs.shapes.Shapes.of_cases.Goals as goal

pub of_payload-requires : goal.of_payload-requires
of_payload-requires c = rows-kept c.args.self.now.known.keys c.loop-ty.self.known.keys c.args.rows.now c.loop-ty.invariant.extends c.requires

pub loop-ty-preserved : goal.loop-ty-preserved
loop-ty-preserved c =
    let begun = c.args.self.now.known.keys in
    let before = c.loop-ty.self.known.keys in
    let after = c.of_payload.new.self.known.keys in
    let rows = c.args.rows.now in
    let more = c.in_ok-payload.ensures.extends in
    let here = rw (row-types-kept begun before rows c.loop-ty.invariant.extends c.requires) at c.in_ok-payload.ensures.part in
    record {
      extends = extends-trans begun before after c.loop-ty.invariant.extends more;
      parts = parts-more after (option_map (closed_val (row_types begun rows))) c.args.payloads.now c.loop-ty.ty-index _ c.loop-ty.cases.items c.push.new.self.items c.in_ok-payload.payload (omega arith)
          (parts-kept before after _ c.loop-ty.cases.items more c.loop-ty.invariant.parts) here c.in_ok-push.ensures.items;
    }

pub returns-clause-extends : goal.returns-clause-extends
returns-clause-extends c = on-extends c.args.self.now.known.keys c.loop-ty.self.known.keys c.number.new.self.known.keys c.number.result c.loop-ty.invariant.extends c.number.ensures.extends
