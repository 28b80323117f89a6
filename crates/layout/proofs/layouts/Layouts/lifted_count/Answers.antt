use Rattle.std.proofs.Common.{◌∙◌, ap, length, List}
use Rattle.canonical_abi.specs.declared.flat.CoreKind.{CoreKind}
use Rattle.layout.specs.Layout.{LayoutTable}
use Rattle.layout.proofs.CoreSignatures.{params-are}
use Rattle.layout.proofs.layouts.Layouts.lifted_count.Goals as goal

pub returns : goal.returns
returns c = λ r e h.
    c.passed_count.ensures ∙ ap (λ (ks : List CoreKind). length ks) (params-are c.self.inside.rows.items r c.args.func c.index.result.now (ap (λ (t : LayoutTable). t.rows) (c.self.view_is ∙ e)) c.index.ensures h)
