use Rattle.std.proofs.Common.{sym, subst}
use Rattle.wit_tokens.specs.View.{world_kind_view}
use Rattle.wit_tokens.specs.declared.wit_syntax.ast.WorldItemKind.{WorldItemKind}
use Rattle.package_adding.specs.Named.{world_entry_names}
use Rattle.package_adding.specs.Asked.{also, AreAsked}
use Rattle.package_adding.proofs.NamesAskedOfSets.{on-map}
use Rattle.package_adding.proofs.named.ask_world_item.Goals as goal

pub returns-in-Interface : goal.returns-in-Interface
returns-in-Interface c = on-map c.ask_path.result _ _ (λ h names asks.
    subst (λ (k : WorldItemKind). AreAsked c.args.set.now (also names (world_entry_names (world_kind_view c.args.item.now.direction k))) c.ask_path.new.asked) (sym c.in-Interface.is) (h names asks))
    c.ask_path.ensures
