use Rattle.std.proofs.Common.{List, map, sym, subst}
use Rattle.wit_tokens.specs.View.{entry_view, world_entry_view, item_view}
use Rattle.wit_tokens.specs.declared.wit_syntax.ast.InterfaceItem.{InterfaceItem}
use Rattle.wit_tokens.specs.declared.wit_syntax.ast.Item.{Item}
use Rattle.wit_tokens.specs.declared.wit_syntax.ast.WorldItem.{WorldItem}
use Rattle.package_adding.specs.Named.{entry_names_interface, world_entry_names, file_entry_names, any_names}
use Rattle.package_adding.specs.Asked.{also, AreAsked}
use Rattle.package_adding.proofs.NamesAskedOfSets.{on-map}
use Rattle.package_adding.proofs.named.ask_entry.Goals as goal

pub returns-in-Interface : goal.returns-in-Interface
returns-in-Interface c = on-map c.ask_items.result _ _ (λ h names asks.
    subst (λ (i : Item). AreAsked c.args.set.now (also names (file_entry_names (item_view i))) c.ask_items.new.asked) (sym c.in-Interface.is)
    (subst (λ (is : List InterfaceItem). AreAsked c.args.set.now (also names (any_names entry_names_interface (map entry_view is))) c.ask_items.new.asked) c.deref.ensures.value (h names asks)))
    c.ask_items.ensures

pub returns-in-World : goal.returns-in-World
returns-in-World c = on-map c.ask_world_items.result _ _ (λ h names asks.
    subst (λ (i : Item). AreAsked c.args.set.now (also names (file_entry_names (item_view i))) c.ask_world_items.new.asked) (sym c.in-World.is)
    (subst (λ (is : List WorldItem). AreAsked c.args.set.now (also names (any_names world_entry_names (map world_entry_view is))) c.ask_world_items.new.asked) c.deref-in-World.ensures.value (h names asks)))
    c.ask_world_items.ensures
