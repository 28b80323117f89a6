use Rattle.std.proofs.Common.{◌≡◌, ◌+◌, ◌*◌, get_or, ap, ◌∙◌, arith}
use Rattle.std.proofs.lemmas.Option.{IfSome_then}
use Rattle.std.specs.Prelude.{slice_range}
use Rattle.ranges.specs.Columns.{laid}
use Rattle.ranges.proofs.ColumnsLaidOverCaps.{seen-same}
use Rattle.ranges.proofs.OneNumberCrosses.{part-get}
use Rattle.ranges.proofs.cases.fill_pairs.Goals as goal

pub returns-clause-good : goal.returns-clause-good
returns-clause-good c = IfSome_then c.fill_part.result c.fill_part.ensures.good (λ k good e h.
    let m = c.args.source.now in
    let n = c.args.count * 8 in
    let at = c.args.column.now.at in
    let place : c.args.from + (0 + e * 8 + at) ≡ c.args.from + e * 8 + at = omega arith in
    let byte = part-get m c.args.from n (0 + e * 8 + at) (omega (arith, h, c.requires.within)) in
    let here = rw place at byte in
    let low = good e h in
    rw here at low)

pub returns-clause-caps : goal.returns-clause-caps
returns-clause-caps c = IfSome_then c.fill_part.result c.fill_part.ensures.caps (λ k caps e j h g.
    let m = c.args.source.now in
    let n = c.args.count * 8 in
    let column = c.args.column.now in
    let place : c.args.from + (0 + e * 8 + column.at) ≡ c.args.from + e * 8 + column.at = omega arith in
    let byte = part-get m c.args.from n (0 + e * 8 + column.at) (omega (arith, h, c.requires.within)) in
    caps e j h g ∙ ap (λ x. laid column x j (get_or c.args.caps.now (e * 8 + j) 0)) (byte ∙ ap (λ x. get_or m x 0) place))

pub returns-clause-nodes : goal.returns-clause-nodes
returns-clause-nodes c = IfSome_then c.fill_part.result c.fill_part.ensures.nodes (λ k nodes.
    let m = c.args.source.now in
    let n = c.args.count * 8 in
    let column = c.args.column.now in
    nodes ∙ seen-same column 8 (slice_range m c.args.from (c.args.from + n)) 0 m c.args.from c.args.count (λ e h.
    let place : c.args.from + (0 + e * 8 + column.at) ≡ c.args.from + e * 8 + column.at = omega arith in
    part-get m c.args.from n (0 + e * 8 + column.at) (omega (arith, h, c.requires.within)) ∙ ap (λ x. get_or m x 0) place))
