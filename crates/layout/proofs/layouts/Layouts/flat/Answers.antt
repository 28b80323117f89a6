use Rattle.std.proofs.Common.{◌≡◌, ◌∙◌, ap}
use Rattle.layout.specs.Layout.{LayoutTable, layouts_of}
use Rattle.layout.proofs.CoreSignatures.{kinds-are}
use Rattle.layout.proofs.layouts.Layouts.flat.Goals as goal

pub returns-in_default : goal.returns-in_default
returns-in_default c = λ r e.
    let table : c.as_slice.result.now ≡ (layouts_of r).rows = c.as_slice.ensures.value ∙ ap (λ (t : LayoutTable). t.rows) (c.self.view_is ∙ e) in
    c.unpacked-in_default.ensures ∙ c.side_by_side.ensures ∙ kinds-are c.as_slice.result.now r c.args.types.now table
