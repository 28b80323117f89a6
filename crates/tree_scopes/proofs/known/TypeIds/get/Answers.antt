use Rattle.tree_scopes.proofs.known.TypeIds.get.Goals as goal

pub unreachable-requires : goal.unreachable-requires
unreachable-requires c = absurd (c.in-None.ensures.none c.requires)
