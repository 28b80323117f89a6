use Rattle.std.proofs.Common.{subst}
use Rattle.std.specs.declared.option.Option.{Option}
use Rattle.wit_tokens.specs.View.{optional_view}
use Rattle.wit_tokens.specs.declared.wit_syntax.ast.TypeExpression.{TypeExpression}
use Rattle.tree_meaning.specs.Declarations.{named_if}
use Rattle.tree_scopes.specs.KnownScopes.{KnowsNames}
use Rattle.tree_rows.proofs.lower.lower_optional.Goals as goal

pub lower_type-requires-clause-known : goal.lower_type-requires-clause-known
lower_type-requires-clause-known c = subst (λ (x : Option TypeExpression). KnowsNames c.args.scope.now (named_if (optional_view x))) c.in-Some.is c.requires.known
