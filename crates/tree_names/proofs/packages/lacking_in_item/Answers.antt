use Rattle.std.proofs.Common.{IfSome, IfNone, All, Contains, sym, subst}
use Rattle.wit_tokens.specs.View.{entry_view, path_view}
use Rattle.wit_tokens.specs.declared.wit_syntax.ast.InterfaceItem.{InterfaceItem}
use Rattle.wit_tokens.specs.declared.wit_syntax.ast.Use.{Use}
use Rattle.tree_meaning.specs.Declarations.{entry_packages, path_packages}
use Rattle.tree_meaning.specs.Finished.{header_name}
use Rattle.tree_meaning.specs.Resolves.{IsLacking}
use Rattle.tree_names.proofs.packages.lacking_in_item.Goals as goal

pub returns-in-Use-clause-none : goal.returns-in-Use-clause-none
returns-in-Use-clause-none c =
    subst (λ (i : InterfaceItem). IfNone c.lacking.result (All (Contains c.args.packages.now) (entry_packages (entry_view i)))) (sym c.in-Use.is)
    (subst (λ (u : Use). IfNone c.lacking.result (All (Contains c.args.packages.now) (path_packages (path_view u.interface)))) c.deref.ensures c.lacking.ensures.none)

pub returns-in-Use-clause-some : goal.returns-in-Use-clause-some
returns-in-Use-clause-some c =
    subst (λ (i : InterfaceItem). IfSome c.lacking.result (λ p. IsLacking c.args.packages.now (entry_packages (entry_view i)) (header_name p.now))) (sym c.in-Use.is)
    (subst (λ (u : Use). IfSome c.lacking.result (λ p. IsLacking c.args.packages.now (path_packages (path_view u.interface)) (header_name p.now))) c.deref.ensures c.lacking.ensures.some)
