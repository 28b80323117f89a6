use Rattle.std.proofs.Common.{◌≡◌, ap}
use Rattle.layout.specs.Layout.{LayoutTable}
use Rattle.layout.specs.Parts.{final_type}
use Rattle.layout.proofs.PartsTellClosedTypes.{end-told}
use Rattle.layout.proofs.layouts.Layouts.final_type.Goals as goal

pub returns : goal.returns
returns c =
    let t = c.args.self.now in
    let ps = c.self.inside.parts in
    let is : c.final_type.result ≡ final_type ps c.args.ty = c.final_type.ensures in
    let told = end-told t c.self.inside.rows.items ps c.args.ty c.final_type.result (ap (λ (u : LayoutTable). u.rows) c.self.view_is) (ap (λ (u : LayoutTable). u.parts) c.self.view_is)
    c.self.invariant.2 c.self.invariant.3 is c.requires in
    record { value = rw (ap (λ (u : LayoutTable). u.parts) c.self.view_is) at is; below = told.0; end = told.1 }
