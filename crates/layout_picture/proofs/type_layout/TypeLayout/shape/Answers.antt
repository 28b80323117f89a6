-- The shape is that of the layouts, which have so many rows.
use Rattle.std.proofs.Common.{length, subst}
use Rattle.tables.specs.declared.tables.Resolve.{Resolve}
use Rattle.tables.specs.declared.tables.ValType.{ValType}
use Rattle.layout_picture.specs.Closed.{IsShape}
use Rattle.layout_picture.proofs.type_layout.TypeLayout.shape.Goals as goal

pub returns : goal.returns
returns c =
    let t = c.self.inside in
    subst (λ (x : Resolve × ValType). IsShape x c.shape.result) c.self.view_is
    (length t.layouts.now.rows, c.shape.ensures.shape t.resolve.now t.laid_out)
