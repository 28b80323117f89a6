use Rattle.std.proofs.Common.{◌≡◌, ◌∙◌, ap}
use Rattle.layout.specs.Kinds.{count_of}
use Rattle.layout.specs.Layout.{LayoutTable, layouts_of}
use Rattle.layout.proofs.CoreSignatures.{kinds-are}
use Rattle.layout.proofs.layouts.Layouts.flat_count.Goals as goal

pub returns-in_default : goal.returns-in_default
returns-in_default c = λ r e.
    let table : c.as_slice-in_default.result.now ≡ (layouts_of r).rows = c.as_slice-in_default.ensures.value ∙ ap (λ (t : LayoutTable). t.rows) (c.self.view_is ∙ e) in
    c.count.ensures ∙ ap count_of (c.side_by_side.ensures ∙ kinds-are c.as_slice-in_default.result.now r c.args.types.now table)
