use Rattle.tree_rows.proofs.OneDefinitionMore.{on-ok}
use Rattle.tree_rows.proofs.define.define_type.Goals as goal

pub returns : goal.returns
returns c = on-ok c.define_named.result _ _ (λ d. d c.args.builder.now _ c.requires.scoped c.in_ok-kind.ensures) c.define_named.ensures
