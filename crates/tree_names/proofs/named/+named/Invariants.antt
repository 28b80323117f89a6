use Rattle.std.proofs.Common.{◌≡◌, ◌++◌, map, take}
use Rattle.wit_tokens.specs.Syntax.{tys_of}
use Rattle.wit_tokens.specs.View.{ty_view}
use Rattle.tree_meaning.specs.Declarations.{named_all}
use Rattle.tree_scopes.specs.Lent.{lent_names}
use Rattle.tree_names.proofs.named.+named.Given as goal

abbrev pub invariant-push_named_all-loop-ty : goal.invariant-push_named_all-loop-ty
invariant-push_named_all-loop-ty l =
    lent_names l.names.items ≡ lent_names l.initial.names.items ++ named_all (tys_of (map ty_view (take l.ty-index l.ty-items)))
