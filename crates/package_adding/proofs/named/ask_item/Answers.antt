use Rattle.std.proofs.Common.{map, sym, subst}
use Rattle.wit_tokens.specs.Syntax.{Uses}
use Rattle.wit_tokens.specs.View.{entry_view, path_view, used_view}
use Rattle.wit_tokens.specs.declared.wit_syntax.ast.InterfaceItem.{InterfaceItem}
use Rattle.wit_tokens.specs.declared.wit_syntax.ast.Use.{Use}
use Rattle.package_adding.specs.Named.{entry_names_interface}
use Rattle.package_adding.specs.Asked.{also, AreAsked}
use Rattle.package_adding.proofs.NamesAskedOfSets.{on-map}
use Rattle.package_adding.proofs.named.ask_item.Goals as goal

pub returns-in-Use : goal.returns-in-Use
returns-in-Use c = on-map c.ask_use.result _ _ (λ h names asks.
    subst (λ (i : InterfaceItem). AreAsked c.args.set.now (also names (entry_names_interface (entry_view i))) c.ask_use.new.asked) (sym c.in-Use.is)
    (subst (λ (u : Use). AreAsked c.args.set.now (also names (entry_names_interface (Uses u.span (path_view u.interface) (map used_view u.names.items)))) c.ask_use.new.asked) c.deref.ensures
    (h names asks)))
    c.ask_use.ensures
