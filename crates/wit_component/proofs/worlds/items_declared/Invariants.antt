use Rattle.std.proofs.Common.{◌≡◌, ◌≤◌, ◌+◌, ◌*◌, ◌++◌, IsTrue, map, drop, length}
use Rattle.std.specs.List.{list_all}
use Rattle.ctype_format.specs.View.{decl_view}
use Rattle.tables.specs.Package.{interface_names}
use Rattle.package_form.specs.Ends.{behind_items}
use Rattle.wit_component.specs.ToComponent.{is_labelled}
use Rattle.wit_component.specs.Worlds.{Surroundings, rows_between, items_declared, items_place, StandFrom}
use Rattle.wit_component.proofs.worlds.items_declared.Given as goal

abbrev pub invariant-loop-item : goal.invariant-loop-item
invariant-loop-item l =
    let around : Surroundings = record { rows = l.fn.resolve.definitions; names = interface_names l.fn.resolve; instances = l.fn.instances } in
    record {
      declarations : map decl_view l.declared.decls.items ++ items_declared around l.declared.place l.start (drop l.item-index l.fn.items) ≡ items_declared around l.initial.declared.place l.initial.start l.fn.items;
      place : items_place l.fn.resolve.definitions l.declared.place l.start (drop l.item-index l.fn.items) ≡ items_place l.fn.resolve.definitions l.initial.declared.place l.initial.start l.fn.items;
      ends : behind_items l.start (drop l.item-index l.fn.items) ≡ behind_items l.initial.start l.fn.items;
      stand : StandFrom (length l.fn.resolve.interfaces) l.fn.resolve.definitions l.start (drop l.item-index l.fn.items);
      low : l.initial.start ≤ l.start;
      high : l.start ≤ length l.fn.resolve.definitions;
      types : l.declared.place.types ≤ 2 * l.start + l.item-index;
      used : l.declared.place.used ≤ l.initial.declared.place.used + l.start;
      labelled : IsTrue (list_all is_labelled (rows_between l.fn.resolve.definitions l.initial.start l.start));
    }
