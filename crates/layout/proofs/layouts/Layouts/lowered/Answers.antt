use Rattle.std.proofs.Common.{◌∙◌, ap}
use Rattle.layout.specs.Layout.{LayoutTable}
use Rattle.layout.proofs.CoreSignatures.{are-kinds, lowered-is}
use Rattle.layout.proofs.layouts.Layouts.lowered.Goals as goal

pub returns : goal.returns
returns c = λ r e h.
    let same = c.self.view_is ∙ e in
    let kinds = are-kinds c.self.inside.rows.items c.self.inside.results.items r c.args.func c.index.result.now c.index-2.result.now
    (ap (λ (t : LayoutTable). t.rows) same) (ap (λ (t : LayoutTable). t.results) same) c.index.ensures c.index-2.ensures h in
    c.lowered_of.ensures ∙ lowered-is r c.args.func _ _ kinds
