use Rattle.std.proofs.Common.{◌+◌, ◌*◌, ◌<◌, ◌∙◌, arith}
use Rattle.std.proofs.lemmas.Option.{IfSome_then}
use Rattle.std.specs.Prelude.{slice_range}
use Rattle.ranges.proofs.ColumnsLaidOverCaps.{seen-same}
use Rattle.ranges.proofs.OneNumberCrosses.{part-get}
use Rattle.ranges.proofs.VariantElementsByCase.{element-fits}
use Rattle.ranges.proofs.VariantsMerged.{part-case}
use Rattle.ranges.proofs.words.merge_chunk.Goals as goal

pub returns-clause-good : goal.returns-clause-good
returns-clause-good c = IfSome_then c.merge.result c.merge.ensures.good (λ k good e h.
    let column = c.args.column.now in
    let here = part-case column c.requires.front column.rows.size (omega (arith, c.requires.long)) c.args.source.now c.args.chunk.from c.args.chunk.count e h in
    let low = good e h in
    rw here at low)

pub returns-clause-merged : goal.returns-clause-merged
returns-clause-merged c = IfSome_then c.merge.result c.merge.ensures.merged (λ k merged e j h g.
    let m = c.args.source.now in
    let a = c.args.chunk.from in
    let column = c.args.column.now in
    let step = column.rows.size in
    let n = c.args.chunk.count * step in
    let low : e * step + j < n = omega (arith, element-fits e c.args.chunk.count step h, g) in
    let old = part-get c.args.memory.now c.args.chunk.to n (e * step + j) low in
    let new = part-get m a n (e * step + j) low in
    let case = part-case column c.requires.front step (omega (arith, c.requires.long)) m a c.args.chunk.count e h in
    let is = merged e j h g in
    rw (case, old, new) at is)

pub returns-clause-nodes : goal.returns-clause-nodes
returns-clause-nodes c = IfSome_then c.merge.result c.merge.ensures.nodes (λ k nodes.
    let m = c.args.source.now in
    let column = c.args.column.now in
    let step = column.rows.size in
    let n = c.args.chunk.count * step in
    nodes ∙ seen-same column step (slice_range m c.args.chunk.from (c.args.chunk.from + n)) 0 m c.args.chunk.from c.args.chunk.count
    (λ e h. part-case column c.requires.front step (omega (arith, c.requires.long)) m c.args.chunk.from c.args.chunk.count e h))
