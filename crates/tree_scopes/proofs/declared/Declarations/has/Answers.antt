use Rattle.std.proofs.Common.{refl, sym, ◌∙◌}
use Rattle.tree_scopes.proofs.DeclaredTrees.{own-known, has-local}
use Rattle.tree_scopes.proofs.declared.Declarations.has.Goals as goal

pub returns-then-is_some : goal.returns-then-is_some
returns-then-is_some c = (λ e. own-known c.args.self.now c.args.name.now c.type_place.result c.type_place.ensures (sym c.is_some.ensures ∙ c.if-is_some.true), λ h. refl)

pub returns : goal.returns
returns c = has-local c.args.self.now c.args.name.now c.type_place.result c.local_place.result c.is_some-2.result c.type_place.ensures (sym c.is_some.ensures ∙ c.if-is_some.false) c.local_place.ensures c.is_some-2.ensures
