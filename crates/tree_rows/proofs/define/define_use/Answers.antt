use Rattle.tree_rows.proofs.OneDefinitionMore.{on-ok, uses-kind}
use Rattle.tree_rows.proofs.define.define_use.Goals as goal

pub returns : goal.returns
returns c =
    on-ok c.define_named.result _ _ (λ d. d c.args.builder.now _ c.requires.scoped (uses-kind c.args.builder.now c.args.target _ c.requires.target)) c.define_named.ensures
